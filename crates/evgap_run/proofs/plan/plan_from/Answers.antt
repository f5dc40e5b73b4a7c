use Rattle.std.proofs.Common.{subst}
use Rattle.std.specs.Option.{is_some, option_map}
use Rattle.evgap_run.proofs.PlanFinds.{puts_broken, start_is_fleet}
use Rattle.evgap_run.proofs.Hearing.{broken_is_heard}
use Rattle.fleet_steps.proofs.Hearing.{broken_plan_is_heard}
use Rattle.fleet_steps.specs.PlanFile.{IsUnfit}
use Rattle.gap_words.specs.JobValue.{plan_value}
use Rattle.plan_check.specs.declared.fault.LargeFault.{LargeFault}
use Rattle.evgap_run.specs.declared.cause.Cause.TheVariants as cause
use Rattle.evgap_run.proofs.plan.plan_from.Goals as goal

pub plan_judged-requires : goal.plan_judged-requires
plan_judged-requires g c = start_is_fleet c.args.inst.now c.args.start c.in-Ok._was c.in-Ok.ensures.ok

pub returns-in-Err-Plan-clause-answers : goal.returns-in-Err-Plan-clause-answers
returns-in-Err-Plan-clause-answers g c = λ bytes more has.
    let plan = option_map (λ p. p.now) c.args.start in
    let broken = subst (λ (fault : LargeFault). IsUnfit c.args.inst.now plan fault) c.in-Err-Plan.field-0-is c.in-Err-Plan.ensures.fault in
    puts_broken (plan_value c.args.job.now) bytes more c.args.inst.now plan c.in-Err-Plan.fault c.reject.result
    has broken c.reject.ensures.status c.reject.ensures.files c.reject.ensures.text

pub returns-in-Err-Plan-clause-heard : goal.returns-in-Err-Plan-clause-heard
returns-in-Err-Plan-clause-heard g c =
    broken_is_heard (is_some c.args.job.now.seconds) c.reject.result
    (broken_plan_is_heard cause.Plan c.in-Err-Plan.fault c.reject.result c.reject.ensures.status c.reject.ensures.text c.reject.ensures.cause)
