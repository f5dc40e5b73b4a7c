use Rattle.std.proofs.Common.{arith}
use Rattle.std.proofs.lemmas.Grind.{common_steps}
use Rattle.bound_certificate.proofs.text.writing.section.write_pairs.Goals as goal

pub loop-pair-preserved : goal.loop-pair-preserved
loop-pair-preserved = grind (arith, common_steps)

pub returns : goal.returns
returns = grind (arith, common_steps)
