use Rattle.std.proofs.Common.{Option, subst, sym, ◌⊎◌}
use Rattle.evroute_run.proofs.Endings.{improve_at_plan}
use Rattle.evroute_run.proofs.ImproveFinds.{puts_refusal}
use Rattle.evroute_run.specs.ImproveAnswer.{HearsAlone}
use Rattle.evroute_causes.specs.Heard.{HearsBrokenPlan}
use Rattle.evroute_causes.proofs.Hearing.{refused_job_is_heard}
use Rattle.evroute_causes.specs.Heard.{HearsDone}
use Rattle.route_plan.specs.PlanTexts.{SpellsFleetPlan}
use Rattle.route_plan.specs.declared.plan.FleetPlan.{FleetPlan}
use Rattle.evroute_run.proofs.improve.improve_text.Goals as goal

pub returns-in-Ok-improve_plan-clause-answers : goal.returns-in-Ok-improve_plan-clause-answers
returns-in-Ok-improve_plan-clause-answers g c = λ limit file network.
    let spelled = subst (λ (plan : Option FleetPlan). SpellsFleetPlan c.args.bytes.now plan) (sym c.as_ref.ensures.value) c.in-Ok.ensures.ok in
    c.in-Ok-improve_plan.ensures.answers limit file c.args.bytes.now (record { network = network; spelled = spelled })

pub returns-in-Err-Refused-clause-answers : goal.returns-in-Err-Refused-clause-answers
returns-in-Err-Refused-clause-answers g c = λ limit file network.
    puts_refusal limit c.args.outfile.now file c.args.bytes.now c.in-Err-Refused.field-0 c.in-Err-Refused.refusal c.refuse_job.result
    c.in-Err-Refused.field-0-is (improve_at_plan limit file c.args.bytes.now c.args.inst.now c.in-Err-Refused.field-0 network c.in-Err-Refused.ensures.rule c.in-Err-Refused.ensures.ended)
    c.refuse_job.ensures.status c.refuse_job.ensures.files c.refuse_job.ensures.text

pub returns-in-Err-Refused-clause-heard : goal.returns-in-Err-Refused-clause-heard
returns-in-Err-Refused-clause-heard g c =
    refused_job_is_heard (λ s text heard. HearsBrokenPlan s text heard ⊎ HearsAlone s text heard ⊎ HearsDone s text heard) c.in-Err-Refused.refusal c.refuse_job.result
    c.refuse_job.ensures.status c.refuse_job.ensures.text c.refuse_job.ensures.cause
