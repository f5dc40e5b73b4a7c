use Rattle.std.proofs.Common.{arith}
use Rattle.std.proofs.lemmas.Grind.{common_steps}
use Rattle.mixed_fleet.proofs.earners.set_of.Goals as goal

pub loop-number-preserved : goal.loop-number-preserved
loop-number-preserved = grind (arith, common_steps)
