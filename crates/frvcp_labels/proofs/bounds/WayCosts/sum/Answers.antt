use Rattle.std.proofs.Common.{arith}
use Rattle.std.proofs.lemmas.Grind.{common_steps}
use Rattle.frvcp_labels.proofs.bounds.WayCosts.sum.Goals as goal

pub index-requires-in-loop-to : goal.index-requires-in-loop-to
index-requires-in-loop-to = grind (arith, common_steps)

pub loop-to-preserved : goal.loop-to-preserved
loop-to-preserved = grind (arith, common_steps)
