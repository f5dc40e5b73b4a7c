use Rattle.std.proofs.Common.{subst, sym}
use Rattle.std.specs.Option.{option_map}
use Rattle.evview_run.proofs.Parts.{unasked_is_part}
use Rattle.fleet_steps.specs.PlanFile.{IsUnfit}
use Rattle.plan_check.specs.declared.fault.LargeFault.{LargeFault}
use Rattle.evview_run.proofs.judging.judged_part.Goals as goal

pub returns-else-is_of_part-clause-ok : goal.returns-else-is_of_part-clause-ok
returns-else-is_of_part-clause-ok c =
    let plan = option_map (λ p. p.now) c.args.plan in
    let broken = subst (λ (fault : LargeFault). IsUnfit c.args.inst.now plan fault) c.in-Err-Plan.field-0-is c.in-Err-Plan.ensures.fault in
    unasked_is_part c.args.inst.now plan c.in-Err-Plan.fault broken (sym c.if-is_of_part.ensures)
