use Rattle.ev_fleet.specs.Splitting.{CannotSplitTo}
use Rattle.ev_fleet.proofs.pair.first_after.Given as goal

abbrev pub invariant-loop-j : goal.invariant-loop-j
invariant-loop-j l = CannotSplitTo l.tree l.key l.i l.j
