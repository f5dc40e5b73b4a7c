use Rattle.std.proofs.Common.{◌≡◌, ◌≤◌, ◌^◌, List, length, sym, subst, ap, arith}
use Rattle.route_plan.specs.declared.plan.RoutePlan.{RoutePlan}
use Rattle.plan_schedule.specs.Totals.{AreSmall, plan_totals}
use Rattle.plan_schedule.specs.declared.schedule.RouteSchedule.{RouteSchedule}
use Rattle.plan_schedule.proofs.RoutesInTurn.{as_many}
use Rattle.plan_schedule.proofs.Sums.{small_plan}
use Rattle.plan_schedule.proofs.plan.schedule_plan.Goals as goal

pub plan_totals-totals-requires : goal.plan_totals-totals-requires
plan_totals-totals-requires c =
    let routes = c.in_ok-routes.routes.items in
    let plans = c.as_slice.result.now in
    let many : length routes ≡ length plans = as_many c.args.inst.now c.args.start routes plans c.in_ok-routes.ensures.value in
    let few : length routes ≤ 10 ^ 6 = omega (arith, many, ap (λ (ps : List RoutePlan). length ps) c.as_slice.ensures, c.requires.few) in
    subst (λ (rs : List RouteSchedule). AreSmall (plan_totals rs)) (sym c.as_slice-2.ensures.value) (small_plan routes c.in_ok-routes.ensures.small few)
