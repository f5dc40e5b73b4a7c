-- Solutions of a table's equations.
use Rattle.std.specs.Prelude.{◌≡◌, ℕ, ◌<◌, ℤ, pos, ◌+ℤ◌, ◌*ℤ◌, ◌↔◌, List, [], ◌∷◌}
use Rattle.master_table.specs.Tableau.{Tableau, row_at, size}

-- the sum of the numbers, each times its share
abbrev pub product : List ℤ → List ℤ → ℤ
product [] shares = pos 0
product (z ∷ zs) [] = pos 0
product (z ∷ zs) (x ∷ xs) = z *ℤ x +ℤ product zs xs

-- the shares of the columns, divided by `over`, solve the equation of each customer's row
abbrev pub IsSolution : Tableau → List ℤ → ℤ → Type 0
IsSolution t shares over =
    (i : ℕ) → i < size t → product (row_at t i).entries shares ≡ over *ℤ (row_at t i).right

abbrev pub HaveSameSolutions : Tableau → Tableau → Type 0
HaveSameSolutions a b =
    (shares : List ℤ) (over : ℤ) → IsSolution a shares over ↔ IsSolution b shares over
