use Rattle.plan_schedule.specs.Totals.{plan_totals}
use Rattle.plan_schedule.proofs.Sums.{next_route}
use Rattle.plan_schedule.proofs.totals.plan_totals.Goals as goal

pub plus-totals-requires : goal.plus-totals-requires
plus-totals-requires c =
    next_route c.loop-route.totals (plan_totals c.args.routes.now) c.args.routes.now c.route-item.result c.loop-route.route-index
    c.route-item.is c.loop-route-test.true c.loop-route.invariant c.requires
