use Rattle.std.proofs.Common.{arith}
use Rattle.std.proofs.lemmas.Grind.{common_steps}
use Rattle.route_pool.proofs.keeping.keeps_pairs.Goals as goal

pub loop-node-preserved : goal.loop-node-preserved
loop-node-preserved = grind (arith, common_steps)

pub returns : goal.returns
returns = grind (arith, common_steps)
