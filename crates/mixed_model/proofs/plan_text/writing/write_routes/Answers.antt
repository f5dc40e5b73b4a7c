use Rattle.std.proofs.Common.{arith}
use Rattle.std.proofs.lemmas.Grind.{common_steps}
use Rattle.mixed_model.proofs.plan_text.writing.write_routes.Goals as goal

pub returns : goal.returns
returns = grind (arith, common_steps)

pub loop-route-preserved : goal.loop-route-preserved
loop-route-preserved = grind (arith, common_steps)
