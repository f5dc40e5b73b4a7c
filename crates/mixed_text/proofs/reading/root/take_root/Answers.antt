use Rattle.std.proofs.Common.{rules, arith}
use Rattle.std.proofs.lemmas.Grind.{common_steps}
use Rattle.mixed_text.proofs.PartReading.{no_root}
use Rattle.mixed_text.proofs.reading.root.take_root.Goals as goal

pub returns-in_err-word-clause-fault : goal.returns-in_err-word-clause-fault
returns-in_err-word-clause-fault c =
    let broken =
    no_root c.args.kinds c.args.inst.now c.args.scan.now c.choose.new.self c.choose-2.new.self c.in_ok-choose.field-0 c.in_ok-choose-2.field-0 _
    c.in_ok-choose.ensures.ok c.if-branch.false c.in_ok-choose-2.ensures.ok c.if-branch-2.false c.in_err-word.ensures.fault in
    search rules

pub returns-in_err-choose-2-clause-fault : goal.returns-in_err-choose-2-clause-fault
returns-in_err-choose-2-clause-fault = grind (arith, common_steps)
