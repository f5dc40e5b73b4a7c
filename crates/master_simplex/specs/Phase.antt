-- A phase of the simplex method: what it brings down, and in which order rows leave.
use Rattle.std.specs.Prelude.{◌≡◌, ◌≢◌, ℕ, zero, suc, ◌+◌, ◌<◌, ◌≤◌, ℤ, pos, negsuc, ◌-ℤ◌, ◌*ℤ◌, ◌<ℤ◌, ◌≤ℤ◌, neg_ℤ, Bool, true, false, cond, nat_lt, Option, Some, None, List, [], ◌∷◌, length, map, get_or, unsigned_abs}
use Rattle.fleet_model.specs.Equations.{column_at}
use Rattle.fleet_model.specs.Basis.{IsDetermined}
use Rattle.fleet_model.specs.Wide.{IsPast}
use Rattle.master_table.specs.Tableau.{Equation, Tableau, entry_at, row_at, size}
use Rattle.master_table.specs.Solutions.{HaveSameSolutions}
use Rattle.master_simplex.specs.Falling.{IsLexPositive, height}
use Rattle.master_simplex.specs.declared.phase.Goal.{Goal}
use Rattle.master_simplex.specs.declared.phase.Goal.TheVariants.{Helpers, Cost}

-- more than each number of a table within its caps, helper numbers less the weight included
abbrev pub bound : Tableau → ℕ
bound t = t.caps.body + (t.caps.cost + t.caps.cost)

-- a row's right side, then its entries at some columns
abbrev pub key : List ℕ → Equation → List ℤ
key places row = row.right ∷ map (λ j. get_or row.entries j (pos 0)) places

-- the row that a phase brings down: the helper row, or the cost row with the other sign
abbrev pub gain_row : Goal → Tableau → Equation
gain_row Helpers t = row_at t (size t + 1)
gain_row Cost t = row_at t (size t)

-- what the row has of a column: above 0 where bringing the column into the basis lets it fall
abbrev pub gain : Goal → Tableau → ℕ → ℤ
gain Helpers t j =
    entry_at t (size t + 1) j -ℤ cond (nat_lt j (size t)) (row_at t (size t + 1)).weight (pos 0)
gain Cost t j = neg_ℤ (entry_at t (size t) j)

abbrev pub gain_right : Goal → Tableau → ℤ
gain_right Helpers t = (row_at t (size t + 1)).right
gain_right Cost t = neg_ℤ (row_at t (size t)).right

abbrev pub gain_key : Goal → List ℕ → Tableau → List ℤ
gain_key goal places t = gain_right goal t ∷ map (λ j. gain goal t j) places

unfoldable pub gain_height : Goal → List ℕ → Tableau → ℕ
gain_height goal places t =
    height (bound t) (unsigned_abs (gain_row goal t).weight) (gain_key goal places t)

-- no added column lets the row fall
abbrev pub HasNoGain : Goal → Tableau → Type 0
HasNoGain goal t = (j : ℕ) → size t ≤ j → j < length t.columns → gain goal t j ≤ℤ pos 0

-- an added column that lets the row fall, or none where none of those before column k does
abbrev pub IsGaining : Goal → Tableau → ℕ → Option ℕ → Type 0
IsGaining goal t k None = (j : ℕ) → size t ≤ j → j < k → gain goal t j ≤ℤ pos 0
IsGaining goal t k (Some col) =
    (size t ≤ col) × (col < length t.columns) × (pos 0 <ℤ gain goal t col)

-- whether the number is below 0, unless it is 0
abbrev pub less : ℤ → Option Bool
less (pos zero) = None
less (pos (suc n)) = Some false
less (negsuc n) = Some true

-- the answer, or else a later one
abbrev pub or_later : Option Bool → Bool → Bool
or_later (Some b) later = b
or_later None later = later

-- xs, divided by a, stands before ys, divided by b, in the lexicographic order
abbrev pub precedes : ℤ → ℤ → List ℤ → List ℤ → Bool
precedes a b [] ys = false
precedes a b (x ∷ xs) [] = false
precedes a b (x ∷ xs) (y ∷ ys) = or_later (less (b *ℤ x -ℤ a *ℤ y)) (precedes a b xs ys)

-- whether row i's entry at the place, over its entry at the column, is less than row r's, unless they are the same
abbrev pub less_at : Tableau → ℕ → ℕ → ℕ → ℕ → Option Bool
less_at t col i r place =
    less (entry_at t r col *ℤ entry_at t i place -ℤ entry_at t i col *ℤ entry_at t r place)

-- whether the entries at the places, over the entry at the column, stand before row r's in the lexicographic order
abbrev pub entries_precede : Tableau → ℕ → ℕ → ℕ → List ℕ → Bool
entries_precede t col i r [] = false
entries_precede t col i r (place ∷ places) =
    or_later (less_at t col i r place) (entries_precede t col i r places)

-- the height of a row's key, divided by its entry at the column
unfoldable pub row_height : Tableau → List ℕ → ℕ → ℕ → ℕ
row_height t places col i =
    height (bound t) (unsigned_abs (entry_at t i col)) (key places (row_at t i))

-- of the rows below i whose entry at the column is above 0, the one of least height, or none
abbrev pub IsLeast : Tableau → List ℕ → ℕ → ℕ → Option ℕ → Type 0
IsLeast t places col i None = (k : ℕ) → k < i → entry_at t k col ≤ℤ pos 0
IsLeast t places col i (Some r) =
    (r < i) × (pos 0 <ℤ entry_at t r col) ×
    ((k : ℕ) → k < i → pos 0 <ℤ entry_at t k col →
    row_height t places col r ≤ row_height t places col k)

-- the columns of a phase's places determine a row, and each row is positive in the lexicographic order
pub record IsPhase (places : List ℕ) (t : Tableau) : Type 0 where
  pub count : length places ≡ size t
  pub placed : (k : ℕ) → k < length places → get_or places k 0 < length t.columns
  pub determined : IsDetermined (size t) (map (column_at t.columns) places)
  pub positive : (i : ℕ) → i < size t → IsLexPositive (key places (row_at t i))

-- another basis of the same equations
pub record IsReached (old new : Tableau) : Type 0 where
  pub columns : new.columns ≡ old.columns
  pub caps : new.caps ≡ old.caps
  pub same_size : size new ≡ size old
  pub solutions : HaveSameSolutions old new

-- a row whose basis column is a helper has right side 0 and nothing of an added column
pub record IsIdle (t : Tableau) (i : ℕ) : Type 0 where
  pub right : (row_at t i).right ≡ pos 0
  pub entries : (j : ℕ) → size t ≤ j → entry_at t i j ≡ pos 0

-- no helper can come to a share above 0
abbrev pub AreHelpersIdle : Tableau → Type 0
AreHelpersIdle t = (i : ℕ) → i < size t → get_or t.basis i 0 < size t → IsIdle t i

-- a basis that a refusal names: at most one of its columns is no basis column of the table, and it is past the table's caps
pub record IsRefused (basis : List ℕ) (t : Tableau) : Type 0 where
  pub row : ℕ
  pub count : length basis ≡ size t
  pub beside : (i : ℕ) → i ≢ row → get_or basis i 0 ≡ get_or t.basis i 0
  pub past : IsPast t.caps.body t.caps.cost (size t) t.columns (map (column_at t.columns) basis)

-- no right side of a customer's row is below 0
abbrev pub IsFeasible : Tableau → Type 0
IsFeasible t = (i : ℕ) → i < size t → pos 0 ≤ℤ (row_at t i).right

-- no share is below 0, each helper's is 0, and of the first k rows each with a helper is idle
pub record IsDriven (t : Tableau) (k : ℕ) : Type 0 where
  pub feasible : IsFeasible t
  pub none : (i : ℕ) → i < size t → get_or t.basis i 0 < size t → (row_at t i).right ≡ pos 0
  pub idle : (i : ℕ) → i < k → i < size t → get_or t.basis i 0 < size t → IsIdle t i

-- the helpers of the first k customers are in the basis
abbrev pub AreBasic : Tableau → ℕ → Type 0
AreBasic t k = (c : ℕ) → c < k → (i : ℕ) × (i < size t) × (get_or t.basis i 0 ≡ c)
