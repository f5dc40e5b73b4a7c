use Rattle.std.proofs.Common.{◌≡◌, ◌≤◌, drop}
use Rattle.route_plan.specs.FirstPlaces.{first_before_last}
use Rattle.route_plan.specs.RouteRules.{first_inner_depot, is_depot}
use Rattle.route_plan.proofs.route.inner_depot.Given as goal

abbrev pub invariant-loop-at : goal.invariant-loop-at
invariant-loop-at l = (1 ≤ l.at) × (first_before_last is_depot l.at (drop l.at l.nodes) ≡ first_inner_depot l.nodes)
