use Rattle.std.proofs.Common.{arith}
use Rattle.std.proofs.lemmas.Grind.{common_steps}
use Rattle.schedule_texts.proofs.map.route.push_rows.Goals as goal

pub loop-at-preserved : goal.loop-at-preserved
loop-at-preserved = grind (arith, common_steps)

pub returns : goal.returns
returns = grind (arith, common_steps)
