use Rattle.std.proofs.Common.{◌≡◌, ◌+◌, drop}
use Rattle.route_plan.specs.RouteRules.{first_again}
use Rattle.route_plan.proofs.route.again.Given as goal

abbrev pub invariant-loop-at : goal.invariant-loop-at
invariant-loop-at l = first_again (l.at + 1) (drop l.at l.nodes) ≡ first_again 1 l.nodes
