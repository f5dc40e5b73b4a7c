use Rattle.std.proofs.Common.{◌≡◌, drop, map}
use Rattle.plan_schedule.specs.Totals.{of_visit, route_totals, summed}
use Rattle.plan_schedule.proofs.totals.route_totals.Given as goal

abbrev pub invariant-loop-visit : goal.invariant-loop-visit
invariant-loop-visit l = summed l.totals (map of_visit (drop l.visit-index l.visits)) ≡ route_totals l.visits
