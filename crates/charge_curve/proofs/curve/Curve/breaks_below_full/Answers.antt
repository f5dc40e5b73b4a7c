use Rattle.std.proofs.Common.{arith}
use Rattle.std.proofs.lemmas.Grind.{common_steps}
use Rattle.charge_curve.proofs.curve.Curve.breaks_below_full.Goals as goal

pub returns : goal.returns
returns = grind (arith, common_steps)

pub overflow_mul-d : goal.overflow_mul-d
overflow_mul-d = grind (arith, common_steps)
