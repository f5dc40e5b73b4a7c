use Rattle.std.proofs.Common.{length}
use Rattle.ev_text.specs.Scans.{rest_of}
use Rattle.certificate_parts.proofs.SetReading.{AreMembersTo}
use Rattle.tree_text.proofs.reading.sets.take_members.Given as goal

abbrev pub invariant-loop-last : goal.invariant-loop-last
invariant-loop-last l = AreMembersTo l.inst l.mark l.fn.scan l.set l.last l.scan

abbrev pub decreases-loop-last : goal.decreases-loop-last
decreases-loop-last l = length (rest_of l.scan)
