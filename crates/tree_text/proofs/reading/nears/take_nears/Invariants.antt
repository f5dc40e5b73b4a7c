use Rattle.tree_text.proofs.SetLoops.{SetsUpTo}
use Rattle.tree_text.proofs.reading.nears.take_nears.Given as goal

abbrev pub invariant-loop-number : goal.invariant-loop-number
invariant-loop-number l = SetsUpTo l.inst l.fn.scan l.sets.items l.number l.scan
