use Rattle.std.proofs.Common.{arith}
use Rattle.std.proofs.lemmas.Grind.{common_steps}
use Rattle.charge_curve.proofs.Curves.{all_left, common_at_end}
use Rattle.charge_curve.proofs.denominator.common_denominator.Goals as goal

pub loop-curve-init : goal.loop-curve-init
loop-curve-init c = (omega arith, omega arith, all_left c.args.curves.now)

pub returns-clause-some : goal.returns-clause-some
returns-clause-some c =
    common_at_end c.args.curves.now c.loop-curve.common c.loop-curve.curve-index (omega arith) c.loop-curve.invariant.0 c.loop-curve.invariant.2

pub returns-in_default-clause-none : goal.returns-in_default-clause-none
returns-in_default-clause-none = grind (arith, common_steps)

pub loop-curve-preserved : goal.loop-curve-preserved
loop-curve-preserved = grind (arith, common_steps)
