use Rattle.std.proofs.Common.{length}
use Rattle.ev_text.specs.Scans.{rest_of}
use Rattle.route_plan.proofs.PlanLoops.{AreStopsTo}
use Rattle.route_plan.proofs.text.reading.take_stops.Given as goal

abbrev pub invariant-loop-scan : goal.invariant-loop-scan
invariant-loop-scan l = AreStopsTo l.fn.scan l.stops.items l.scan

abbrev pub decreases-loop-scan : goal.decreases-loop-scan
decreases-loop-scan l = length (rest_of l.scan)
