use Rattle.std.specs.Prelude.{◌≢◌, ◌<◌, ℕ, get_or}
use Rattle.master_simplex.proofs.restore.row_of.Given as goal

abbrev pub invariant-loop-row : goal.invariant-loop-row
invariant-loop-row l = (i : ℕ) → i < l.row → get_or l.t.basis i 0 ≢ l.col
