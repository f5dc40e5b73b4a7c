use Rattle.std.proofs.Common.{arith}
use Rattle.std.proofs.lemmas.Grind.{common_steps}
use Rattle.certificate_check.proofs.cover.listed_cost.Goals as goal

pub overflow_add-cost : goal.overflow_add-cost
overflow_add-cost = grind (arith, common_steps)

pub loop-share-preserved : goal.loop-share-preserved
loop-share-preserved = grind (arith, common_steps)
