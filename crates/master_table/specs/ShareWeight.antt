-- The share weight of a table's basis: the least number that makes the right side of each row over its own coefficient whole.
use Rattle.std.specs.Prelude.{ℕ, ◌*◌, ◌<◌, get_or, unsigned_abs}
use Rattle.std.specs.Int.{◌∣◌}
use Rattle.master_table.specs.Tableau.{Tableau, entry_at, row_at}

-- the size of the row's coefficient at its basis column, and that of its right side
abbrev pub own_at : Tableau → ℕ → ℕ
own_at t i = unsigned_abs (entry_at t i (get_or t.basis i 0))

abbrev pub right_at : Tableau → ℕ → ℕ
right_at t i = unsigned_abs (row_at t i).right

-- W times the right side, over the own coefficient, is whole in each of the first k rows
abbrev pub MakesRowsWhole : Tableau → ℕ → ℕ → Type 0
MakesRowsWhole t k W = (i : ℕ) → i < k → own_at t i ∣ (W * right_at t i)

-- the least such W
pub record IsRowsWeight (t : Tableau) (k W : ℕ) : Type 0 where
  pub some : 0 < W
  pub whole : MakesRowsWhole t k W
  pub least : (V : ℕ) → MakesRowsWhole t k V → W ∣ V
