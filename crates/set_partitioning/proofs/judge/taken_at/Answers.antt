use Rattle.std.proofs.Common.{arith}
use Rattle.std.proofs.lemmas.Grind.{common_steps}
use Rattle.set_partitioning.proofs.judge.taken_at.Goals as goal

pub returns : goal.returns
returns = grind (arith, common_steps)

pub loop-at-preserved : goal.loop-at-preserved
loop-at-preserved = grind (arith, common_steps)
