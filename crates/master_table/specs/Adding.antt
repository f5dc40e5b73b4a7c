-- A table with a further column.
use Rattle.std.specs.Prelude.{ℕ, ◌+◌, ℤ, ◌+ℤ◌, ◌*ℤ◌, List, [], ◌∷◌, ◌++◌, Option, Some, None, cond, nat_lt, unsigned_abs}
use Rattle.fleet_model.specs.Equations.{Column, entry}
use Rattle.master_table.specs.Tableau.{Equation, Limits, Tableau, charge, entry_cap, multipliers, size}

-- the entry of the row at place i at the column
abbrev pub new_entry : ℕ → Column → ℕ → Equation → ℤ
new_entry n column i row = row.weight *ℤ charge n i column +ℤ entry (multipliers n row) column

-- the entries of the rows from i on
abbrev pub new_entries : ℕ → Column → ℕ → List Equation → List ℤ
new_entries n column i [] = []
new_entries n column i (row ∷ rows) = new_entry n column i row ∷ new_entries n column (i + 1) rows

-- the row with an entry behind the others
abbrev pub extended_row : Equation → ℤ → Equation
extended_row row z =
    record { weight = row.weight; right = row.right; entries = row.entries ++ z ∷ [] }

abbrev pub extended_rows : List Equation → List ℤ → List Equation
extended_rows [] zs = []
extended_rows (row ∷ rows) [] = row ∷ rows
extended_rows (row ∷ rows) (z ∷ zs) = extended_row row z ∷ extended_rows rows zs

-- the table with the column behind the others
abbrev pub with_column : Column → Tableau → Tableau
with_column column t = record {
  rows = extended_rows t.rows (new_entries (size t) column 0 t.rows);
  basis = t.basis;
  columns = t.columns ++ column ∷ [];
  caps = t.caps;
}

-- the first of the rows from i on whose entry is past its cap
abbrev pub past_row : Limits → ℕ → ℕ → List ℤ → Option ℕ
past_row caps n i [] = None
past_row caps n i (z ∷ zs) =
    cond (nat_lt (entry_cap caps n i) (unsigned_abs z)) (Some i) (past_row caps n (i + 1) zs)

-- the first row whose entry at the new column is past its cap
abbrev pub first_past_row : Column → Tableau → Option ℕ
first_past_row column t = past_row t.caps (size t) 0 (new_entries (size t) column 0 t.rows)
