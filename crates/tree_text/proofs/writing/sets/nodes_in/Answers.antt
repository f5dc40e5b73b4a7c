use Rattle.std.proofs.Common.{arith}
use Rattle.std.proofs.lemmas.Grind.{common_steps}
use Rattle.tree_text.proofs.writing.sets.nodes_in.Goals as goal

pub returns : goal.returns
returns = grind (arith, common_steps)

pub loop-number-preserved : goal.loop-number-preserved
loop-number-preserved = grind (arith, common_steps)
