-- From the table of the first m entries to that of one more: which helper makes room.
use Rattle.std.specs.Prelude.{◌≡◌, ◌≢◌, ℕ, zero, suc, ◌+◌, ◌<◌, pos, false, cond, nat_eq, Option, Some, None, List, [], ◌∷◌, ◌++◌, map, length, take, get_or}
use Rattle.std.specs.List.{range_with_len}
use Rattle.customer_sets.specs.CustSet.{has}
use Rattle.fleet_model.specs.Equations.{helpers}
use Rattle.master_table.specs.Fresh.{fresh_row}
use Rattle.master_table.specs.Pivoting.{pivoted}
use Rattle.master_table.specs.Tableau.{IsTableau, Limits, Tableau, entry_at, multipliers, row_at, size}
use Rattle.master_table.specs.Listed.{route_columns}
use Rattle.master_table.specs.declared.listed.ListedRoute.{ListedRoute}

-- the table of the helpers' basis, with the columns of some routes
pub record IsHelperTable (n : ℕ) (caps : Limits) (routes : List ListedRoute)
    (t : Tableau) : Type 0 where
  pub tableau : IsTableau t
  pub limits : t.caps ≡ caps
  pub basis : t.basis ≡ range_with_len 0 n
  pub columns : t.columns ≡ helpers n ++ route_columns routes
  pub weights : (i : ℕ) → i < n + 2 → (row_at t i).weight ≡ (fresh_row n i).weight
  pub parts : (i : ℕ) → i < n + 2 → multipliers n (row_at t i) ≡ (fresh_row n i).entries

-- of `more` rows from c on, those that aren't taken
abbrev pub left_rows : List ℕ → ℕ → ℕ → List ℕ
left_rows taken zero c = []
left_rows taken (suc more) c =
    cond (has taken c) (left_rows taken more (suc c)) (c ∷ left_rows taken more (suc c))

-- no number stands twice in the list
abbrev pub AreOnce : List ℕ → Type 0
AreOnce [] = Unit {0}
AreOnce (x ∷ xs) = (has xs x ≡ false) × AreOnce xs

-- the table's basis is that of the first m entries: the taken rows hold these, in the order that is
-- told; each other row still has its own customer's helper, and nothing of an earlier customer's
pub record IsStart (t : Tableau) (entries : List ℕ) (m : ℕ) (taken : List ℕ) : Type 0 where
  pub tableau : IsTableau t
  pub order : List ℕ
  pub held : map (λ i. get_or t.basis i 0) order ≡ take m entries
  pub below : (j : ℕ) → j < length order → get_or order j 0 < size t
  pub once : AreOnce order
  pub same : (i : ℕ) → has taken i ≡ has order i
  pub count : length order + length (left_rows taken (size t) 0) ≡ size t
  pub own : (i : ℕ) → i < size t → has taken i ≡ false → get_or t.basis i 0 ≡ i
  pub later : (i x : ℕ) → i < size t → has taken i ≡ false → x < i → entry_at t i x ≡ pos 0

-- the row's helper may make room for the column: the row holds no entry, and has some of the column
abbrev pub MayGo : Tableau → List ℕ → ℕ → ℕ → Type 0
MayGo t taken col i = (has taken i ≡ false) × (entry_at t i col ≢ pos 0)

-- of the rows below k the last that may go, or none where none may
abbrev pub IsLastToGo : Tableau → List ℕ → ℕ → ℕ → Option ℕ → Type 0
IsLastToGo t taken col k None = (i : ℕ) → i < k → MayGo t taken col i → ⊥
IsLastToGo t taken col k (Some r) =
    (r < k) × MayGo t taken col r × ((i : ℕ) → r < i → i < k → MayGo t taken col i → ⊥)

-- the table with the column in the row's place of the basis: the same, where it stands there already
abbrev pub brought : ℕ → ℕ → Tableau → Tableau
brought row col t = cond (nat_eq (get_or t.basis row 0) col) t (pivoted row col t)
