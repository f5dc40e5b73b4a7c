use Rattle.std.proofs.Common.{arith}
use Rattle.std.proofs.lemmas.Grind.{common_steps}
use Rattle.tree_text.proofs.writing.labels.write_labels.Goals as goal

pub returns : goal.returns
returns = grind (arith, common_steps)

pub loop-label-preserved : goal.loop-label-preserved
loop-label-preserved = grind (arith, common_steps)
