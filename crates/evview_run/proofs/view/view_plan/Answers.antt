use Rattle.std.proofs.Common.{◌≤◌, Option, subst}
use Rattle.evview_run.proofs.Hearing.{no_route_is_heard}
use Rattle.evview_run.proofs.ViewFinds.{puts_no_route}
use Rattle.evview_run.specs.ViewAnswer.{route_count}
use Rattle.route_plan.specs.declared.plan.FleetPlan.{FleetPlan}
use Rattle.view_words.specs.JobValue.{view_value}
use Rattle.evview_run.proofs.view.view_plan.Goals as goal

pub returns-in-Some-clause-answers : goal.returns-in-Some-clause-answers
returns-in-Some-clause-answers c = λ file plan_bytes more has named.
    let past = subst (λ (plan : Option FleetPlan). route_count plan ≤ c.in-Some.number) c.as_ref.ensures.value c.in-Some.ensures.past.1 in
    puts_no_route (view_value c.args.job.now) file plan_bytes more c.args.inst.now c.args.held.now c.args.places.now c.in-Some.number c.refuse_route.result
    has named c.in-Some.ensures.past.0 past c.refuse_route.ensures.status c.refuse_route.ensures.files c.refuse_route.ensures.text

pub returns-in-Some-clause-heard : goal.returns-in-Some-clause-heard
returns-in-Some-clause-heard c = no_route_is_heard c.in-Some.number c.refuse_route.result c.refuse_route.ensures.status c.refuse_route.ensures.text c.refuse_route.ensures.cause
