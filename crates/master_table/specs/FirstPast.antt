-- The first number of a table that is past its cap.
use Rattle.std.specs.Prelude.{ℕ, ◌+◌, ℤ, List, [], ◌∷◌, length, Option, Some, None, cond, nat_lt, unsigned_abs}
use Rattle.master_table.specs.Tableau.{Equation, Limits, Tableau, entry_cap, size, weight_cap}

-- the first of the numbers past the cap, counted from j on
abbrev pub past_from : ℕ → ℕ → List ℤ → Option ℕ
past_from cap j [] = None
past_from cap j (z ∷ zs) = cond (nat_lt cap (unsigned_abs z)) (Some j) (past_from cap (j + 1) zs)

-- the first place, or else the second
abbrev pub or_place : Option ℕ → Option ℕ → Option ℕ
or_place (Some j) later = Some j
or_place None later = later

-- the first number of row i past its cap: an entry, then the right side as the column after the last, then the weight
abbrev pub past_in : Limits → ℕ → ℕ → Equation → Option ℕ
past_in caps n i row =
    or_place (past_from (entry_cap caps n i) 0 row.entries)
    (cond (nat_lt (entry_cap caps n i) (unsigned_abs row.right)) (Some (length row.entries))
    (cond (nat_lt (weight_cap caps n i) (unsigned_abs row.weight))
    (Some (length row.entries + 1)) None))

-- the first row with such a number, and the place in it, or else a later row
abbrev pub or_later : ℕ → Option ℕ → Option (ℕ × ℕ) → Option (ℕ × ℕ)
or_later i (Some j) later = Some (i, j)
or_later i None later = later

-- the same of the rows from i on
abbrev pub past_of : Limits → ℕ → ℕ → List Equation → Option (ℕ × ℕ)
past_of caps n i [] = None
past_of caps n i (row ∷ rows) = or_later i (past_in caps n i row) (past_of caps n (i + 1) rows)

-- the row and the column of the table's first number past its cap, row by row
abbrev pub first_past : Tableau → Option (ℕ × ℕ)
first_past t = past_of t.caps (size t) 0 t.rows
