use Rattle.std.proofs.Common.{arith}
use Rattle.std.proofs.lemmas.Grind.{common_steps}
use Rattle.column_pool.proofs.route.worth.Goals as goal

pub loop-node-preserved : goal.loop-node-preserved
loop-node-preserved = grind (arith, common_steps)
