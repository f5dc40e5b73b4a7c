use Rattle.std.proofs.Common.{arith}
use Rattle.std.proofs.lemmas.Grind.{common_steps}
use Rattle.mixed_fleet.proofs.listed.shares_of.Goals as goal

pub loop-column-preserved : goal.loop-column-preserved
loop-column-preserved = grind (arith, common_steps)

pub returns : goal.returns
returns = grind (arith, common_steps)
