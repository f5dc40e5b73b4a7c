use Rattle.std.proofs.Common.{◌≡◌, drop}
use Rattle.master_simplex.specs.Phase.{entries_precede}
use Rattle.master_simplex.proofs.ratio.entries_precede.Given as goal

abbrev pub invariant-loop-place : goal.invariant-loop-place
invariant-loop-place l = entries_precede l.t l.col l.i l.r (drop l.place-index l.places) ≡ entries_precede l.t l.col l.i l.r l.places
