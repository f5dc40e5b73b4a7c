use Rattle.std.proofs.Common.{◌<◌, ◌≤◌, drop}
use Rattle.charge_curve.proofs.Denominators.{Leaves}
use Rattle.charge_curve.proofs.denominator.with_slopes.Given as goal

abbrev pub invariant-loop-index : goal.invariant-loop-index
invariant-loop-index l = (0 < l.common) × (l.common ≤ l.limit) × Leaves l.full l.points l.denominator l.common (drop l.index l.points)
