use Rattle.std.proofs.Common.{◌∙◌, [], ◌∷◌, List, sym, subst, ap, arith}
use Rattle.std.specs.List.{All}
use Rattle.std.proofs.lemmas.List.Elements.{All-append, All-cons, All-nil}
use Rattle.ev_model.specs.Feasible.{IsFeasible}
use Rattle.ev_model.specs.declared.Stop.{Stop}
use Rattle.plan_check.specs.FleetRules.{stops_of}
use Rattle.plan_schedule.specs.Schedules.{HasSmallTotals, route_schedule, route_schedules}
use Rattle.plan_schedule.specs.declared.schedule.RouteSchedule.{RouteSchedule}
use Rattle.plan_schedule.proofs.RoutesInTurn.{feasible_behind, feasible_here, told_next}
use Rattle.std.proofs.lemmas.Grind.{common_steps}
use Rattle.plan_schedule.proofs.plan.route_schedules.Goals as goal

pub route_schedule-requires-clause-feasible : goal.route_schedule-requires-clause-feasible
route_schedule-requires-clause-feasible c =
    let g = c.args.inst.now in
    let feasible = feasible_here g c.args.start c.args.plans.now c.index-plans-number.result c.loop-number.number c.index-plans-number.is c.loop-number-test.true c.loop-number.invariant.feasible in
    subst (λ (ss : List Stop). IsFeasible g 1 c.args.start ss) (sym c.as_slice.ensures) feasible

pub loop-number-preserved : goal.loop-number-preserved
loop-number-preserved c =
    let g = c.args.inst.now in
    let p = c.index-plans-number.result in
    let i = c.loop-number.number in
    let old = c.loop-number.routes.items in
    let r = c.in_ok-route.route in
    let made = c.in_ok-route.ensures.value ∙ ap (λ ss. route_schedule g c.args.start i ss) c.as_slice.ensures in
    record {
      told = told_next g c.args.start old c.push.new.self.items r (route_schedules g c.args.start 0 (stops_of c.args.plans.now)) c.args.plans.now p i c.index-plans-number.is c.loop-number-test.true c.in_ok-push.ensures.items made c.loop-number.invariant.told;
      feasible = feasible_behind g c.args.start c.args.plans.now p i c.index-plans-number.is c.loop-number-test.true c.loop-number.invariant.feasible;
      small = subst (λ (xs : List RouteSchedule). All HasSmallTotals xs) (sym c.in_ok-push.ensures.items) (All-append HasSmallTotals old (r ∷ []) c.loop-number.invariant.small (All-cons HasSmallTotals r [] c.in_ok-route.ensures.small (All-nil HasSmallTotals)));
    }

pub returns-clause-value : goal.returns-clause-value
returns-clause-value = grind (arith, common_steps)
