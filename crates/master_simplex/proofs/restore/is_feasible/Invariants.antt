use Rattle.std.specs.Prelude.{◌<◌, ◌≤ℤ◌, ℕ, pos}
use Rattle.master_table.specs.Tableau.{row_at}
use Rattle.master_simplex.proofs.restore.is_feasible.Given as goal

abbrev pub invariant-loop-i : goal.invariant-loop-i
invariant-loop-i l = (k : ℕ) → k < l.i → pos 0 ≤ℤ (row_at l.t k).right
