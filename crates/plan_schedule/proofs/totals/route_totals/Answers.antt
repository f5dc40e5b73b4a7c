use Rattle.plan_schedule.specs.Totals.{route_totals}
use Rattle.plan_schedule.proofs.Sums.{next_visit}
use Rattle.plan_schedule.proofs.totals.route_totals.Goals as goal

pub plus-totals-requires : goal.plus-totals-requires
plus-totals-requires c =
    next_visit c.loop-visit.totals c.of_visit.result (route_totals c.args.visits.now) c.args.visits.now _ c.loop-visit.visit-index
    c.of_visit.ensures c.loop-visit-test.true c.loop-visit.invariant c.requires
