use Rattle.std.proofs.Common.{arith}
use Rattle.std.proofs.lemmas.Grind.{common_steps}
use Rattle.bound_certificate.proofs.text.writing.write_tree.Goals as goal

pub returns : goal.returns
returns = grind (arith, common_steps)

pub loop-line-preserved : goal.loop-line-preserved
loop-line-preserved = grind (arith, common_steps)
