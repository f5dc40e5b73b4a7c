use Rattle.std.proofs.Common.{arith}
use Rattle.std.proofs.lemmas.Grind.{common_steps}
use Rattle.certificate_parts.proofs.SetReading.{nobody_read}
use Rattle.tree_text.proofs.reading.sets.take_set.Goals as goal

pub returns-then-take_if-clause-ok : goal.returns-then-take_if-clause-ok
returns-then-take_if-clause-ok c = nobody_read c.args.inst.now 32 c.args.scan.now c.take_if.new.self c.word.new.self c.nobody.result c.if-take_if.ensures c.in_ok-word.ensures.ok c.nobody.ensures.value

pub returns-then-take_if-clause-within : goal.returns-then-take_if-clause-within
returns-then-take_if-clause-within = grind (arith, common_steps)
