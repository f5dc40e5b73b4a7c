-- What the rows of a basis say of a column.
use Rattle.std.specs.Prelude.{ℕ, ℤ, pos, ◌+ℤ◌, ◌*ℤ◌, Bool, List, [], ◌∷◌}
use Rattle.fleet_model.specs.Equations.{Column, entry, total}

-- the sum over the basis of a factor, times the basis column's entry in a combination, times the row's sum over chosen customers
abbrev pub expansion : List ℤ → List Column → List ℤ → List (List ℤ) → (ℕ → Bool) → ℤ
expansion ms [] ks rows s = pos 0
expansion ms (b ∷ bs) [] rows s = pos 0
expansion ms (b ∷ bs) (k ∷ ks) [] s = pos 0
expansion ms (b ∷ bs) (k ∷ ks) (row ∷ rows) s =
    (k *ℤ entry ms b) *ℤ total s row +ℤ expansion ms bs ks rows s
