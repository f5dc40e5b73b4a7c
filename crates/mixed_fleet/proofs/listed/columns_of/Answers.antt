use Rattle.std.proofs.Common.{arith}
use Rattle.std.proofs.lemmas.Grind.{common_steps}
use Rattle.mixed_fleet.proofs.listed.columns_of.Goals as goal

pub loop-searched-preserved : goal.loop-searched-preserved
loop-searched-preserved = grind (arith, common_steps)
