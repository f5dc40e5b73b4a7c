use Rattle.std.proofs.Common.{arith}
use Rattle.std.proofs.lemmas.Grind.{common_steps}
use Rattle.instance_maker.proofs.instance.distances.Goals as goal

pub loop-from-preserved : goal.loop-from-preserved
loop-from-preserved = grind (arith, common_steps)

pub returns : goal.returns
returns = grind (arith, common_steps)
