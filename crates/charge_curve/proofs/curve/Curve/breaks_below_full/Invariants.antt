use Rattle.std.proofs.Common.{◌≡◌, ◌++◌, drop, map}
use Rattle.charge_curve.specs.Scaled.{below, scaled}
use Rattle.charge_curve.proofs.curve.Curve.breaks_below_full.Given as goal

abbrev pub invariant-loop-point : goal.invariant-loop-point
invariant-loop-point l = l.breaks.items ++ map (scaled l.d) (below l.full (drop l.point-index l.points)) ≡ map (scaled l.d) (below l.full l.points)
