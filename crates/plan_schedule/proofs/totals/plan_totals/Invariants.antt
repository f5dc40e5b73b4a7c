use Rattle.std.proofs.Common.{◌≡◌, drop, map}
use Rattle.plan_schedule.specs.Totals.{plan_totals, summed}
use Rattle.plan_schedule.proofs.totals.plan_totals.Given as goal

abbrev pub invariant-loop-route : goal.invariant-loop-route
invariant-loop-route l = summed l.totals (map (λ r. r.totals) (drop l.route-index l.routes)) ≡ plan_totals l.routes
