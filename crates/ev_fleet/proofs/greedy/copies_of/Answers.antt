use Rattle.std.proofs.Common.{arith}
use Rattle.std.proofs.lemmas.Grind.{common_steps}
use Rattle.ev_fleet.proofs.greedy.copies_of.Goals as goal

pub returns : goal.returns
returns = grind (arith, common_steps)

pub loop-share-preserved : goal.loop-share-preserved
loop-share-preserved = grind (arith, common_steps)
