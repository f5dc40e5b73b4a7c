-- A table of equations over the columns of a master problem, as its calls show it.
use Rattle.std.specs.Prelude.{◌≡◌, ℕ, ◌+◌, ◌<◌, ◌≤◌, ℤ, pos, ◌+ℤ◌, ◌*ℤ◌, List, [], ◌∷◌, length, map, get_or, take, cond, nat_lt, neg_ℤ, unsigned_abs, All}
use Rattle.fleet_model.specs.Divisors.{IsGcdOf}
use Rattle.fleet_model.specs.Equations.{Column, column_at, cost_of, entry, help_of, helper, right_side}
use Rattle.fleet_model.specs.Basis.{IsBody, IsDetermined, IsHelperList, IsPriceList}
use Rattle.fleet_model.specs.Wide.{IsPast}

-- a row: its weight (0 for a body equation), its right side, and its entry at each column
pub record Equation : Type 0 where
  pub weight : ℤ
  pub right : ℤ
  pub entries : List ℤ

-- caps on sizes: of the body equations and the weight of the cost row, and of all else
pub record Limits : Type 0 where
  pub body : ℕ
  pub cost : ℕ

-- the table: a row for each customer, the cost row and the helper row; the number of each row's basis column; all columns,
-- first the helpers; the caps
pub record Tableau : Type 0 where
  pub rows : List Equation
  pub basis : List ℕ
  pub columns : List Column
  pub caps : Limits

-- the number of customers
abbrev pub size : Tableau → ℕ
size t = length t.basis

abbrev pub row_at : Tableau → ℕ → Equation
row_at t i = get_or t.rows i (record { weight = pos 0; right = pos 0; entries = [] })

abbrev pub entry_at : Tableau → ℕ → ℕ → ℤ
entry_at t i j = get_or (row_at t i).entries j (pos 0)

-- the columns of the basis, in the order of the rows
abbrev pub basis_columns : Tableau → List Column
basis_columns t = map (column_at t.columns) t.basis

-- a row's multipliers of n master equations: its entries at the helpers
abbrev pub multipliers : ℕ → Equation → List ℤ
multipliers n row = take n row.entries

-- the prices of a cost row: its entries at the helpers, with the other sign
abbrev pub prices_of : ℕ → Equation → List ℤ
prices_of n row = map neg_ℤ (multipliers n row)

-- what the cost of a column counts in a row of n customers' table: the weight in the cost row, nothing in the helper row
abbrev pub charge : ℕ → ℕ → Column → ℤ
charge n i column = cond (nat_lt n i) (pos 0) (pos (cost_of column))

-- the row has at each column its weight times what the column costs, and the sum of its multipliers over the column's
-- customers; its right side is the sum of all of them
pub record IsSpelled (n i : ℕ) (columns : List Column) (row : Equation) : Type 0 where
  pub entries : row.entries
      ≡ map (λ column. row.weight *ℤ charge n i column +ℤ entry (multipliers n row) column) columns
  pub right : row.right ≡ right_side (multipliers n row)

-- the columns of n customers: first their helpers, then routes
pub record AreColumns (n : ℕ) (columns : List Column) : Type 0 where
  pub enough : n ≤ length columns
  pub helped : (c : ℕ) → c < n → column_at columns c ≡ helper c
  pub routes : (j : ℕ) → n ≤ j → help_of (column_at columns j) ≡ 0

-- the table of a basis of n columns: its rows are the body equations of its basis; its cost row is the price list (each price
-- with the other sign at its helper, the weight times the cost less the prices at a route, the price sum with the other sign as
-- the right side); its helper row is the helper list
pub record IsTableauOf (n : ℕ) (t : Tableau) : Type 0 where
  pub high : length t.rows ≡ n + 2
  pub count : size t ≡ n
  pub columns : AreColumns n t.columns
  pub placed : (i : ℕ) → i < n → get_or t.basis i 0 < length t.columns
  pub spelled : (i : ℕ) → i < n + 2 → IsSpelled n i t.columns (row_at t i)
  pub weightless : (i : ℕ) → i < n → (row_at t i).weight ≡ pos 0
  pub bodies : (i : ℕ) → i < n → IsBody n (basis_columns t) i (multipliers n (row_at t i))
  pub determined : IsDetermined n (basis_columns t)
  pub price_list : IsPriceList n (basis_columns t) (row_at t n).weight (prices_of n (row_at t n))
  pub prices_reduced : IsGcdOf ((row_at t n).weight ∷ multipliers n (row_at t n)) 1
  pub helper_list : IsHelperList n (basis_columns t) (row_at t (n + 1)).weight
      (multipliers n (row_at t (n + 1)))
  pub numbers_reduced : IsGcdOf ((row_at t (n + 1)).weight ∷ multipliers n (row_at t (n + 1))) 1

abbrev pub IsTableau : Tableau → Type 0
IsTableau t = IsTableauOf (size t) t

-- the cap of the entries of a row, and that of its weight
abbrev pub entry_cap : Limits → ℕ → ℕ → ℕ
entry_cap caps n i = cond (nat_lt i n) caps.body caps.cost

abbrev pub weight_cap : Limits → ℕ → ℕ → ℕ
weight_cap caps n i = cond (nat_lt n i) caps.cost caps.body

pub record IsRowWithin (caps : Limits) (n i : ℕ) (row : Equation) : Type 0 where
  pub entries : All (λ x. unsigned_abs x ≤ entry_cap caps n i) row.entries
  pub right : unsigned_abs row.right ≤ entry_cap caps n i
  pub weight : unsigned_abs row.weight ≤ weight_cap caps n i

-- no number of the table is past its cap
abbrev pub IsWithinCaps : Tableau → Type 0
IsWithinCaps t = (i : ℕ) → i < size t + 2 → IsRowWithin t.caps (size t) i (row_at t i)

-- the table's basis is past its caps
abbrev pub IsBasisPast : Tableau → Type 0
IsBasisPast t = IsPast t.caps.body t.caps.cost (size t) t.columns (basis_columns t)
