use Rattle.std.proofs.Common.{arith}
use Rattle.std.proofs.lemmas.Grind.{common_steps}
use Rattle.schedule_texts.proofs.picture.line.push_bends.Goals as goal

pub loop-corner-preserved : goal.loop-corner-preserved
loop-corner-preserved = grind (arith, common_steps)

pub returns : goal.returns
returns = grind (arith, common_steps)
