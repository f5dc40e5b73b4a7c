use Rattle.std.proofs.Common.{◌^◌, ◌≤◌, length}
use Rattle.ev_model.specs.Network.{scaled_limit}
use Rattle.ev_text.specs.Scans.{rest_of}
use Rattle.certificate_parts.proofs.PointReading.{ArePointsTo}
use Rattle.certificate_parts.proofs.reading.label.take_points.Given as goal

abbrev pub invariant-loop-last : goal.invariant-loop-last
invariant-loop-last l = ArePointsTo l.inst l.fn.scan l.points.items l.last l.scan × (l.inst.capacity ≤ 10 ^ 9) × (scaled_limit l.inst ≤ 10 ^ 18)

abbrev pub decreases-loop-last : goal.decreases-loop-last
decreases-loop-last l = length (rest_of l.scan)
