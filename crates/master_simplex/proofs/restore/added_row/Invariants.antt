use Rattle.std.specs.Prelude.{◌≡◌, ◌<◌, ◌≤◌, ℕ, get_or, pos}
use Rattle.master_table.specs.Tableau.{entry_at, size}
use Rattle.master_simplex.proofs.restore.added_row.Given as goal

abbrev pub invariant-loop-row : goal.invariant-loop-row
invariant-loop-row l = (i : ℕ) → i < l.row → size l.t ≤ get_or l.t.basis i 0 → entry_at l.t i l.col ≡ pos 0
