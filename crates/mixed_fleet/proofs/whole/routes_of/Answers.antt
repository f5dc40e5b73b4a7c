use Rattle.std.proofs.Common.{arith}
use Rattle.std.proofs.lemmas.Grind.{common_steps}
use Rattle.mixed_fleet.proofs.whole.routes_of.Goals as goal

pub loop-share-preserved : goal.loop-share-preserved
loop-share-preserved = grind (arith, common_steps)
