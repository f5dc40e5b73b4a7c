use Rattle.std.proofs.Common.{arith}
use Rattle.std.proofs.lemmas.Grind.{common_steps}
use Rattle.master_simplex.proofs.restore.is_feasible.Goals as goal

pub loop-i-preserved : goal.loop-i-preserved
loop-i-preserved = grind (arith, common_steps)

pub returns : goal.returns
returns = grind (arith, common_steps)
