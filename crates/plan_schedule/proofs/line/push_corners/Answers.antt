use Rattle.std.proofs.Common.{arith}
use Rattle.std.proofs.lemmas.Grind.{common_steps}
use Rattle.plan_schedule.proofs.line.push_corners.Goals as goal

pub returns : goal.returns
returns = grind (arith, common_steps)
