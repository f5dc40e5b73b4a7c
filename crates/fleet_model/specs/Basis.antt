-- Bases, and what belongs to a basis: body equations, the price list, the helper list, the share weight.
use Rattle.std.specs.Prelude.{◌≡◌, ◌≢◌, ℕ, ◌*◌, ◌<◌, ◌≤◌, ℤ, pos, ◌+ℤ◌, ◌*ℤ◌, ◌<ℤ◌, ◌≤ℤ◌, List, [], ◌∷◌, length, get_or, cond, unsigned_abs}
use Rattle.std.specs.Int.{◌∣◌}
use Rattle.fleet_model.specs.Divisors.{IsGcdOf}
use Rattle.fleet_model.specs.Equations.{Column, column_at, cost_of, entry, help_of, right_side, serves}

-- how often the columns, each taken as many times as its factor says, have the customer
abbrev pub covering : List ℤ → List Column → ℕ → ℤ
covering [] columns c = pos 0
covering (k ∷ ks) [] c = pos 0
covering (k ∷ ks) (b ∷ bs) c = cond (serves b c) k (pos 0) +ℤ covering ks bs c

-- only zeros take the columns together so that each of n customers is covered 0 times
abbrev pub AreIndependent : ℕ → List Column → Type 0
AreIndependent n columns =
    (ks : List ℤ) → length ks ≡ length columns → ((c : ℕ) → c < n → covering ks columns c ≡ pos 0) →
    (j : ℕ) → get_or ks j (pos 0) ≡ pos 0

-- a basis: as many independent columns as there are customers
pub record IsBasis (n : ℕ) (basis : List Column) : Type 0 where
  pub count : length basis ≡ n
  pub independent : AreIndependent n basis

-- a combination of master equations is determined by its coefficients at the basis: only zeros give 0 at each column
abbrev pub IsDetermined : ℕ → List Column → Type 0
IsDetermined n basis =
    (ms : List ℤ) → length ms ≡ n → ((j : ℕ) → j < n → entry ms (column_at basis j) ≡ pos 0) →
    (c : ℕ) → get_or ms c (pos 0) ≡ pos 0

-- the body equation of the basis column at place i: above 0 there, 0 at the rest of the basis, and without a common divisor.
-- (Each coefficient and the right side are sums of the multipliers, so a common divisor of these divides all.)
pub record IsBody (n : ℕ) (basis : List Column) (i : ℕ) (ms : List ℤ) : Type 0 where
  pub whole : length ms ≡ n
  pub own : pos 0 <ℤ entry ms (column_at basis i)
  pub others : (j : ℕ) → j < n → j ≢ i → entry ms (column_at basis j) ≡ pos 0
  pub reduced : IsGcdOf ms 1

-- one number for each customer, which add up over each column of the basis to w times the column's worth
pub record Pays (worth : Column → ℤ) (n : ℕ) (basis : List Column) (w : ℤ) (numbers : List ℤ) : Type 0 where
  pub whole : length numbers ≡ n
  pub some : pos 0 <ℤ w
  pub pays : (j : ℕ) → j < n → entry numbers (column_at basis j) ≡ w *ℤ worth (column_at basis j)

-- the same at the least w
pub record PaysLeast (worth : Column → ℤ) (n : ℕ) (basis : List Column) (w : ℤ) (numbers : List ℤ) : Type 0 where
  pub list : Pays worth n basis w numbers
  pub least : (v : ℤ) (others : List ℤ) → Pays worth n basis v others → w ≤ℤ v

-- the price list: whole prices that pay for each column of the basis w times its cost, at the least w
abbrev pub IsPriceList : ℕ → List Column → ℤ → List ℤ → Type 0
IsPriceList n basis w prices = PaysLeast (λ b. pos (cost_of b)) n basis w prices

-- the helper list: whole numbers that add up to 0 over each route of the basis and are v for each helper of it, at the least v
abbrev pub IsHelperList : ℕ → List Column → ℤ → List ℤ → Type 0
IsHelperList n basis v numbers = PaysLeast (λ b. pos (help_of b)) n basis v numbers

-- W times the right side, over the own coefficient, is whole for each column of the basis
abbrev pub MakesSharesWhole : ℕ → List Column → ℕ → Type 0
MakesSharesWhole n basis W =
    (i : ℕ) (ms : List ℤ) → i < n → IsBody n basis i ms →
    unsigned_abs (entry ms (column_at basis i)) ∣ (W * unsigned_abs (right_side ms))

-- the share weight: the least such W
pub record IsShareWeight (n : ℕ) (basis : List Column) (W : ℕ) : Type 0 where
  pub some : 0 < W
  pub whole : MakesSharesWhole n basis W
  pub least : (V : ℕ) → 0 < V → MakesSharesWhole n basis V → W ≤ V
