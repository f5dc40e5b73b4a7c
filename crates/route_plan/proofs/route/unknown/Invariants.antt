use Rattle.std.proofs.Common.{◌≡◌, drop}
use Rattle.route_plan.specs.RouteRules.{first_unknown}
use Rattle.route_plan.proofs.route.unknown.Given as goal

abbrev pub invariant-loop-at : goal.invariant-loop-at
invariant-loop-at l = first_unknown l.count l.at (drop l.at l.nodes) ≡ first_unknown l.count 0 l.nodes
