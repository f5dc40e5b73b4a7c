use Rattle.std.proofs.Common.{ℕ, ◌<◌, ◌+◌}
use Rattle.ev_fleet.specs.Splitting.{CannotSplitTo}
use Rattle.ev_fleet.proofs.pair.first_pair.Given as goal

abbrev pub invariant-loop-i : goal.invariant-loop-i
invariant-loop-i l = (i : ℕ) → i < l.i → CannotSplitTo l.tree l.key i (l.customers + 1)
