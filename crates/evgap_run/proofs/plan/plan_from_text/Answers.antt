use Rattle.std.proofs.Common.{[], ◌∷◌, Option, subst, sym, ◌⊎◌}
use Rattle.evgap_run.proofs.PlanFinds.{has_start, puts_no_start}
use Rattle.evgap_run.specs.PlanAnswer.{HearsFound}
use Rattle.evgap_run.specs.Heard.{HearsBrokenPlan}
use Rattle.gap_words.specs.JobValue.{plan_value}
use Rattle.evgap_run.proofs.Refusals.{refused_job_is_heard}
use Rattle.route_plan.specs.PlanTexts.{SpellsFleetPlan}
use Rattle.route_plan.specs.declared.plan.FleetPlan.{FleetPlan}
use Rattle.std.specs.Option.{is_some, option_map}
use Rattle.evgap_run.proofs.plan.plan_from_text.Goals as goal

pub returns-in-Ok-plan_from-clause-answers : goal.returns-in-Ok-plan_from-clause-answers
returns-in-Ok-plan_from-clause-answers g c = λ file name fleet named.
    let spelled = subst (λ (plan : Option FleetPlan). SpellsFleetPlan c.args.bytes.now plan) (sym c.as_ref.ensures.value) c.in-Ok.ensures.ok in
    c.in-Ok-plan_from.ensures.answers file (c.args.bytes.now ∷ [])
    (has_start (plan_value c.args.job.now) name c.args.bytes.now file c.args.inst.now (option_map (λ p. p.now) c.as_ref.result) named fleet spelled)

pub returns-in-Err-Refused-clause-answers : goal.returns-in-Err-Refused-clause-answers
returns-in-Err-Refused-clause-answers g c = λ file name fleet named.
    puts_no_start (plan_value c.args.job.now) file name c.args.bytes.now c.args.inst.now c.in-Err-Refused.field-0 c.in-Err-Refused.refusal c.refuse_job.result
    fleet named c.in-Err-Refused.field-0-is c.in-Err-Refused.ensures.rule c.in-Err-Refused.ensures.ended
    c.refuse_job.ensures.status c.refuse_job.ensures.files c.refuse_job.ensures.text

pub returns-in-Err-Refused-clause-heard : goal.returns-in-Err-Refused-clause-heard
returns-in-Err-Refused-clause-heard g c =
    refused_job_is_heard (λ s text heard. HearsBrokenPlan s text heard ⊎ HearsFound (is_some c.args.job.now.seconds) s text heard) c.in-Err-Refused.refusal c.refuse_job.result
    c.refuse_job.ensures.status c.refuse_job.ensures.text c.refuse_job.ensures.cause
