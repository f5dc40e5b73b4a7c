use Rattle.std.proofs.Common.{◌≡◌, drop}
use Rattle.charge_curve.specs.Points.{ArePoints, time_on}
use Rattle.charge_curve.proofs.scaled.time_at.Given as goal

-- the level is on the points that are left
abbrev pub invariant-loop-index : goal.invariant-loop-index
invariant-loop-index l = ArePoints (drop l.index l.points) × (time_on (drop l.index l.points) l.level ≡ time_on l.points l.level)
