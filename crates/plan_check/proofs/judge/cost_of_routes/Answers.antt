use Rattle.std.proofs.Common.{arith}
use Rattle.std.proofs.lemmas.Grind.{common_steps}
use Rattle.plan_check.proofs.judge.cost_of_routes.Goals as goal

pub loop-route-preserved : goal.loop-route-preserved
loop-route-preserved = grind (arith, common_steps)
