use Rattle.std.proofs.Common.{arith}
use Rattle.std.proofs.lemmas.Grind.{common_steps}
use Rattle.near_text.proofs.writing.write_tight.Goals as goal

pub loop-plan-preserved : goal.loop-plan-preserved
loop-plan-preserved = grind (arith, common_steps)

pub returns : goal.returns
returns = grind (arith, common_steps)
