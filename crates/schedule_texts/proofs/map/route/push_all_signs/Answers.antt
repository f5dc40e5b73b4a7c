use Rattle.std.proofs.Common.{arith}
use Rattle.std.proofs.lemmas.Grind.{common_steps}
use Rattle.schedule_texts.proofs.map.route.push_all_signs.Goals as goal

pub loop-route-preserved : goal.loop-route-preserved
loop-route-preserved = grind (arith, common_steps)

pub returns : goal.returns
returns = grind (arith, common_steps)
