use Rattle.std.proofs.Common.{subst}
use Rattle.std.specs.Option.{option_map}
use Rattle.evroute_run.proofs.ImproveFinds.{puts_broken}
use Rattle.evroute_run.proofs.Hearing.{broken_is_heard}
use Rattle.fleet_steps.proofs.Hearing.{broken_plan_is_heard}
use Rattle.fleet_steps.specs.PlanFile.{IsUnfit}
use Rattle.plan_check.specs.declared.fault.LargeFault.{LargeFault}
use Rattle.evroute_causes.specs.declared.cause.Cause.TheVariants as cause
use Rattle.evroute_run.proofs.improve.improve_plan.Goals as goal

pub returns-in-Err-Plan-clause-answers : goal.returns-in-Err-Plan-clause-answers
returns-in-Err-Plan-clause-answers t c = λ limit file plan_bytes has.
    let g = c.args.inst.now in
    let plan = option_map (λ p. p.now) c.args.plan in
    let broken = subst (λ (fault : LargeFault). IsUnfit g plan fault) c.in-Err-Plan.field-0-is c.in-Err-Plan.ensures.fault in
    puts_broken limit c.args.outfile.now file plan_bytes g plan c.in-Err-Plan.fault c.reject.result
    has broken c.reject.ensures.status c.reject.ensures.files c.reject.ensures.text

pub returns-in-Err-Plan-clause-heard : goal.returns-in-Err-Plan-clause-heard
returns-in-Err-Plan-clause-heard t c =
    broken_is_heard c.reject.result
    (broken_plan_is_heard cause.Plan c.in-Err-Plan.fault c.reject.result c.reject.ensures.status c.reject.ensures.text c.reject.ensures.cause)
