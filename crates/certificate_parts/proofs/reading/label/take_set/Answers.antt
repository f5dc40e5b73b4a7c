use Rattle.std.proofs.Common.{arith}
use Rattle.std.proofs.lemmas.Grind.{common_steps}
use Rattle.certificate_parts.proofs.SetReading.{nobody_read}
use Rattle.certificate_parts.proofs.reading.label.take_set.Goals as goal

pub returns-then-take_if-clause-ok : goal.returns-then-take_if-clause-ok
returns-then-take_if-clause-ok c = nobody_read c.args.inst.now c.args.mark c.args.scan.now c.take_if.new.self c.word.new.self c.empty.result c.if-take_if.ensures c.in_ok-word.ensures.ok c.empty.ensures

pub returns-then-take_if-clause-within : goal.returns-then-take_if-clause-within
returns-then-take_if-clause-within = grind (arith, common_steps)
