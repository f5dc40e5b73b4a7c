use Rattle.std.specs.Prelude.{◌≡◌, ◌<◌, ◌≤◌, ℕ, pos}
use Rattle.master_table.specs.Tableau.{entry_at, size}
use Rattle.master_simplex.proofs.helpers.some_entry.Given as goal

abbrev pub invariant-loop-col : goal.invariant-loop-col
invariant-loop-col l = (j : ℕ) → size l.t ≤ j → j < l.col → entry_at l.t l.row j ≡ pos 0
