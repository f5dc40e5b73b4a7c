use Rattle.std.proofs.Common.{length}
use Rattle.std.specs.Prelude.{◌<◌}
use Rattle.ev_text.specs.Scans.{rest_of}
use Rattle.certificate_parts.specs.Ranges.{customer_count}
use Rattle.near_text.proofs.MemberLoops.{IsOwnUpTo}
use Rattle.tree_text.proofs.reading.nears.take_own_members.Given as goal

abbrev pub invariant-loop-at : goal.invariant-loop-at
invariant-loop-at l = (within : l.number < customer_count l.inst) → IsOwnUpTo l.inst l.number within l.fn.scan l.set l.at l.last l.scan

abbrev pub decreases-loop-at : goal.decreases-loop-at
decreases-loop-at l = length (rest_of l.scan)
