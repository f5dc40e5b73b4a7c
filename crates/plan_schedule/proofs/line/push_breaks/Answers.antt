use Rattle.std.proofs.Common.{arith}
use Rattle.std.proofs.lemmas.Grind.{common_steps}
use Rattle.plan_schedule.proofs.line.push_breaks.Goals as goal

pub loop-point-preserved : goal.loop-point-preserved
loop-point-preserved = grind (arith, common_steps)

pub returns : goal.returns
returns = grind (arith, common_steps)
