use Rattle.std.proofs.Common.{arith}
use Rattle.std.proofs.lemmas.Grind.{common_steps}
use Rattle.tree_text.proofs.writing.write_nodes.Goals as goal

pub returns : goal.returns
returns = grind (arith, common_steps)

pub loop-node-preserved : goal.loop-node-preserved
loop-node-preserved = grind (arith, common_steps)
