use Rattle.std.proofs.Common.{◌∙◌, [], sym, ap, subst}
use Rattle.std.specs.Prelude.{is_some}
use Rattle.std.proofs.lemmas.Bool.{false≢true}
use Rattle.ev_model.specs.Feasible.{IsFeasible}
use Rattle.ev_model.specs.Time.{time_of}
use Rattle.certificate_check.proofs.FleetRoutes.{among_of, none_where_none_found, once_from, some_where_found, twice_is_none}
use Rattle.plan_check.proofs.Feasible.{not_only_with_stray, only_without_stray, plan_known}
use Rattle.certificate_check.proofs.routes.fleet_route.Goals as goal
use Rattle.certificate_check.proofs.routes.fleet_route.Goals.{then-is_empty-via-then-is_empty, then-is_empty-via-else-is_empty+then-is_some}

pub served_once-requires-clause-known : goal.served_once-requires-clause-known
served_once-requires-clause-known c =
    plan_known c.args.inst.now c.args.stops.now (subst (λ q. IsFeasible c.args.inst.now 1 q c.args.stops.now) c.max_q.ensures.value c.in-Ok.ensures.feasible)

pub returns-in_default-served_once-clause-none : goal.returns-in_default-served_once-clause-none
returns-in_default-served_once-clause-none c = twice_is_none c.args.inst.now c.args.stops.now (sym c.served_once.ensures ∙ c.in_default-served_once.is)

pub stray_stop-requires : goal.stray_stop-requires
stray_stop-requires c =
    plan_known c.args.inst.now c.args.stops.now (subst (λ q. IsFeasible c.args.inst.now 1 q c.args.stops.now) c.max_q.ensures.value c.in-Ok.ensures.feasible)

pub returns-then-is_empty-clause-none : goal.returns-then-is_empty-clause-none
returns-then-is_empty-clause-none c = elim c.then-is_empty.branch [
  | then-is_empty-via-then-is_empty w ↦ λ route.
      route.some (none_where_none_found c.args.inst.now c.args.stops.now c.in-Some.set (sym c.served_once.ensures ∙ c.in-Some.is) (c.is_empty.ensures.0 w.if-is_empty.true))
  | then-is_empty-via-else-is_empty+then-is_some w ↦ λ route.
      not_only_with_stray c.args.inst.now c.args.stops.now (subst (λ q. IsFeasible c.args.inst.now 1 q c.args.stops.now) c.max_q.ensures.value c.in-Ok.ensures.feasible)
      (ap is_some (sym w.stray_stop.ensures) ∙ sym w.is_some.ensures ∙ w.if-is_some.true) route.only
]

pub returns-clause-route : goal.returns-clause-route
returns-clause-route c =
    let g = c.args.inst.now in
    let stops = c.args.stops.now in
    let feasible : IsFeasible g 1 g.capacity stops = subst (λ q. IsFeasible g 1 q stops) c.max_q.ensures.value c.in-Ok.ensures.feasible in
    let found = sym c.served_once.ensures ∙ c.in-Some.is in
    let from = once_from g [] stops c.in-Some.set found in
    record {
      route = record {
        feasible = feasible;
        some = some_where_found g stops c.in-Some.set found (λ empty. false≢true (sym c.if-is_empty.false ∙ c.is_empty.ensures.1 empty));
        only = only_without_stray g stops feasible (ap is_some (sym c.stray_stop.ensures) ∙ sym c.is_some.ensures ∙ c.if-is_some.false);
        once = from.once;
      };
      set = from.members;
      time = c.in-Ok.ensures.time ∙ ap (λ q. time_of g 1 q stops) c.max_q.ensures.value;
    }

pub returns-clause-among : goal.returns-clause-among
returns-clause-among c =
    let listed = returns-clause-route c in
    among_of c.args.inst.now c.args.stops.now (record { set = c.in-Some.set; time = c.in-Ok.end.time }) listed.route listed.set listed.time c.limit-limit.ensures.small
