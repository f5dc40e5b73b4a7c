use Rattle.std.proofs.Common.{arith}
use Rattle.std.proofs.lemmas.Grind.{common_steps}
use Rattle.tree_text.proofs.writing.sets.write_nears.Goals as goal

pub returns : goal.returns
returns = grind (arith, common_steps)

pub loop-set-preserved : goal.loop-set-preserved
loop-set-preserved = grind (arith, common_steps)
