use Rattle.std.proofs.Common.{arith}
use Rattle.std.proofs.lemmas.Grind.{common_steps}
use Rattle.instance_maker.proofs.instance.distances_from.Goals as goal

pub returns : goal.returns
returns = grind (arith, common_steps)

pub loop-to-preserved : goal.loop-to-preserved
loop-to-preserved = grind (arith, common_steps)
