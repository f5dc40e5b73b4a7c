use Rattle.std.proofs.Common.{arith}
use Rattle.std.proofs.lemmas.Grind.{common_steps}
use Rattle.near_text.proofs.writing.write_labels.Goals as goal

pub loop-label-preserved : goal.loop-label-preserved
loop-label-preserved = grind (arith, common_steps)

pub returns : goal.returns
returns = grind (arith, common_steps)
