use Rattle.std.proofs.Common.{take}
use Rattle.std.specs.List.{All}
use Rattle.certificate_parts.specs.Ranges.{PointFits}
use Rattle.certificate_parts.proofs.ranges.label.points_fit.Given as goal

abbrev pub invariant-loop-point : goal.invariant-loop-point
invariant-loop-point l = All (PointFits l.inst) (take l.point-index l.points)
