use Rattle.std.proofs.Common.{arith}
use Rattle.std.proofs.lemmas.Grind.{common_steps}
use Rattle.plan_check.proofs.tally.count_route.Goals as goal

pub loop-stop-preserved : goal.loop-stop-preserved
loop-stop-preserved = grind (arith, common_steps)
