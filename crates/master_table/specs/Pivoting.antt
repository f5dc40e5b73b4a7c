-- What a pivot makes of a table.
use Rattle.std.specs.Prelude.{◌≡◌, ◌≢◌, ℕ, ◌+◌, ◌<◌, ℤ, pos, negsuc, ◌-ℤ◌, ◌*ℤ◌, ◌<ℤ◌, Bool, true, false, List, [], ◌∷◌, map, set, get_or, take, cond, if◌then◌else◌, nat_lt, nat_eq, neg_ℤ, int_div, unsigned_abs}
use Rattle.fleet_model.specs.Divisors.{gcd_of}
use Rattle.fleet_model.specs.Equations.{combined}
use Rattle.master_table.specs.Tableau.{Equation, Tableau, entry_at, row_at, size}

-- the number is below 0
abbrev pub is_below : ℤ → Bool
is_below (pos n) = false
is_below (negsuc n) = true

-- the row of the pivot, turned so that its entry at the column is above 0
abbrev pub turned_row : ℕ → Equation → Equation
turned_row col row =
    cond (is_below (get_or row.entries col (pos 0)))
    (record { weight = row.weight; right = neg_ℤ row.right; entries = map neg_ℤ row.entries })
    row

-- what another row has of the column: its entry there; in the helper row at a helper the entry less the weight
abbrev pub excess : ℕ → ℕ → ℕ → Equation → ℤ
excess n col i row =
    get_or row.entries col (pos 0)
    -ℤ cond (nat_lt n i) (cond (nat_lt col n) row.weight (pos 0)) (pos 0)

-- own times a row less `by` times the turned row
abbrev pub combined_row : ℤ → ℤ → Equation → Equation → Equation
combined_row own by row turned = record {
  weight = own *ℤ row.weight;
  right = own *ℤ row.right -ℤ by *ℤ turned.right;
  entries = combined own by row.entries turned.entries;
}

-- each number of the list divided by d, rounded toward zero
abbrev pub quotients : ℤ → List ℤ → List ℤ
quotients d zs = map (λ z. int_div z d) zs

abbrev pub divided_row : ℤ → Equation → Equation
divided_row d row =
    record {
      weight = int_div row.weight d;
      right = int_div row.right d;
      entries = quotients d row.entries;
    }

-- the greatest common divisor of the weight and the multipliers of a row
abbrev pub divisor : ℕ → Equation → ℕ
divisor n row = gcd_of (row.weight ∷ take n row.entries)

abbrev pub reduced_row : ℕ → Equation → Equation
reduced_row n row = divided_row (pos (divisor n row)) row

-- the row at place i after the pivot in row r at the column, with the turned row of the pivot
abbrev pub row_after : ℕ → ℕ → ℕ → Equation → ℕ → Equation → Equation
row_after n r col turned i row =
    if nat_eq i r then turned
    else cond (nat_eq (unsigned_abs (excess n col i row)) 0) row
    (reduced_row n
    (combined_row (get_or turned.entries col (pos 0)) (excess n col i row) row turned))

-- the rows from place i on
abbrev pub rows_after : ℕ → ℕ → ℕ → Equation → ℕ → List Equation → List Equation
rows_after n r col turned i [] = []
rows_after n r col turned i (row ∷ rows) =
    row_after n r col turned i row ∷ rows_after n r col turned (i + 1) rows

-- the table after the pivot in row r at the column
abbrev pub pivoted : ℕ → ℕ → Tableau → Tableau
pivoted r col t = record {
  rows = rows_after (size t) r col (turned_row col (row_at t r)) 0 t.rows;
  basis = set t.basis r col;
  columns = t.columns;
  caps = t.caps;
}

-- for some number above 0, that number times the row `now` is f times the row `before` less g times the turned row
pub record IsCombinationOf (f g : ℤ) (before turned now : Equation) : Type 0 where
  pub factor : ℕ
  pub some : 0 < factor
  pub weight : pos factor *ℤ now.weight ≡ f *ℤ before.weight
  pub right : pos factor *ℤ now.right ≡ f *ℤ before.right -ℤ g *ℤ turned.right
  pub entries : (j : ℕ) →
      pos factor *ℤ get_or now.entries j (pos 0)
      ≡ f *ℤ get_or before.entries j (pos 0) -ℤ g *ℤ get_or turned.entries j (pos 0)

-- a pivot in row r at the column: the row is turned so that its entry there is above 0, and taken out of each other row
-- as often as that row has the column
pub record IsPivotOf (r col : ℕ) (old new : Tableau) : Type 0 where
  pub columns : new.columns ≡ old.columns
  pub caps : new.caps ≡ old.caps
  pub basis : new.basis ≡ set old.basis r col
  pub turned : row_at new r ≡ turned_row col (row_at old r)
  pub above : pos 0 <ℤ entry_at new r col
  pub others : (i : ℕ) → i < size old + 2 → i ≢ r
      → IsCombinationOf (entry_at new r col) (excess (size old) col i (row_at old i))
      (row_at old i) (row_at new r) (row_at new i)
