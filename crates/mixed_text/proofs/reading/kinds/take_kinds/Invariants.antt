use Rattle.mixed_text.proofs.KindLoops.{KindsUpTo}
use Rattle.mixed_text.proofs.reading.kinds.take_kinds.Given as goal

abbrev pub invariant-loop-kind : goal.invariant-loop-kind
invariant-loop-kind l = KindsUpTo l.kinds l.fn.scan l.lists.items l.kind l.scan
