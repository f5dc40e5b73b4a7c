use Rattle.std.proofs.Common.{subst}
use Rattle.evview_run.proofs.Hearing.{broken_is_heard}
use Rattle.evview_run.proofs.ViewFinds.{puts_broken}
use Rattle.evview_run.specs.Judged.{IsUnshown}
use Rattle.plan_check.specs.declared.fault.LargeFault.{LargeFault}
use Rattle.view_words.specs.JobValue.{view_value}
use Rattle.evview_run.proofs.view.view_judged.Goals as goal

pub returns-in-Err-Plan-clause-answers : goal.returns-in-Err-Plan-clause-answers
returns-in-Err-Plan-clause-answers c = λ file plan_bytes more has named.
    let broken = subst (λ (fault : LargeFault). IsUnshown c.args.job.now.form c.args.inst.now c.args.held.now fault) c.in-Err-Plan.field-0-is c.in-Err-Plan.ensures.fault in
    puts_broken (view_value c.args.job.now) file plan_bytes more c.args.inst.now c.args.held.now c.args.places.now c.in-Err-Plan.fault c.reject.result
    has named c.requires.route broken c.reject.ensures.status c.reject.ensures.files c.reject.ensures.text

pub returns-in-Err-Plan-clause-heard : goal.returns-in-Err-Plan-clause-heard
returns-in-Err-Plan-clause-heard c = broken_is_heard c.in-Err-Plan.fault c.reject.result c.reject.ensures.status c.reject.ensures.text c.reject.ensures.cause
