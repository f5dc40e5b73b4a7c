use Rattle.std.proofs.Common.{length}
use Rattle.ev_text.specs.Scans.{rest_of}
use Rattle.fixed_reader.proofs.LineLoops.{AreReadTo}
use Rattle.fixed_reader.proofs.reading.take_lines.Given as goal

abbrev pub invariant-loop-scan : goal.invariant-loop-scan
invariant-loop-scan l = AreReadTo l.fn.scan l.stops.items l.scan

abbrev pub decreases-loop-scan : goal.decreases-loop-scan
decreases-loop-scan l = length (rest_of l.scan)
