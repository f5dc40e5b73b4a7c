use Rattle.std.proofs.Common.{arith}
use Rattle.std.proofs.lemmas.Grind.{common_steps}
use Rattle.charge_curve.proofs.Denominators.{leaves_end, rises_at}
use Rattle.charge_curve.proofs.denominator.with_slopes.Goals as goal

pub with_slope-requires-clause-later : goal.with_slope-requires-clause-later
with_slope-requires-clause-later c = (rises_at c.args.points.now c.loop-index.index (0, 0) c.requires.rises (omega arith)).0

pub with_slope-requires-clause-higher : goal.with_slope-requires-clause-higher
with_slope-requires-clause-higher c = (rises_at c.args.points.now c.loop-index.index (0, 0) c.requires.rises (omega arith)).1

pub returns-clause-some : goal.returns-clause-some
returns-clause-some c = (
  c.loop-index.invariant.0,
  c.loop-index.invariant.1,
  leaves_end c.args.full c.args.denominator c.loop-index.common c.args.points.now c.loop-index.index (omega arith) c.loop-index.invariant.2,
)

pub loop-index-preserved : goal.loop-index-preserved
loop-index-preserved = grind (arith, common_steps)

pub loop-index-preserved-then-from-full : goal.loop-index-preserved-then-from-full
loop-index-preserved-then-from-full = grind (arith, common_steps)
