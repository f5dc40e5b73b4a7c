-- Bases whose numbers are past the caps: one for body equations and weights, one for prices and helper numbers.
use Rattle.std.specs.Prelude.{◌≡◌, ℕ, zero, suc, ◌^◌, ◌<◌, ◌≤◌, ℤ, pos, ◌-ℤ◌, ◌*ℤ◌, ◌⊎◌, List, [], ◌∷◌, ◌++◌, map, length, take, unsigned_abs}
use Rattle.fleet_model.specs.Equations.{Column, column_at, cost_of, entry, helper, helpers, right_side}
use Rattle.fleet_model.specs.Basis.{AreIndependent, IsBasis, IsBody, IsHelperList, IsPriceList, IsShareWeight}

-- the entry is past the cap at one of the columns
abbrev pub IsPastAt : ℕ → List Column → (Column → ℤ) → Type 0
IsPastAt cap columns entry_at =
    (j : ℕ) × (j < length columns) × (cap < unsigned_abs (entry_at (column_at columns j)))

-- a coefficient or the right side of a body equation is past the cap
abbrev pub IsBodyPast : ℕ → ℕ → List Column → List Column → Type 0
IsBodyPast body n columns basis =
    (i : ℕ) × (ms : List ℤ) × (i < n) × IsBody n basis i ms ×
    (IsPastAt body columns (entry ms) ⊎ (body < unsigned_abs (right_side ms)))

-- the weight of the price list is past the body cap, or a price, the cost of a column less its prices, or the price sum is past the cost cap
abbrev pub IsPriceListPast : ℕ → ℕ → ℕ → List Column → List Column → Type 0
IsPriceListPast body cost n columns basis =
    (w : ℤ) × (prices : List ℤ) × IsPriceList n basis w prices
    × (IsPastAt cost columns (λ b. w *ℤ pos (cost_of b) -ℤ entry prices b) ⊎
    (cost < unsigned_abs (right_side prices)) ⊎ (body < unsigned_abs w))

-- the weight of the helper list, a number, their sum over a column, or their sum is past the cost cap
abbrev pub IsHelperListPast : ℕ → ℕ → List Column → List Column → Type 0
IsHelperListPast cost n columns basis =
    (v : ℤ) × (numbers : List ℤ) × IsHelperList n basis v numbers
    × (IsPastAt cost columns (entry numbers) ⊎ (cost < unsigned_abs (right_side numbers)) ⊎
    (cost < unsigned_abs v))

-- the share weight is past the body cap
abbrev pub IsShareWeightPast : ℕ → ℕ → List Column → Type 0
IsShareWeightPast body n basis = (W : ℕ) × IsShareWeight n basis W × (body < W)

-- a basis that is past the caps. The columns are the helpers and the listed routes.
pub record IsPast (body cost n : ℕ) (columns basis : List Column) : Type 0 where
  pub is_basis : IsBasis n basis
  pub past : IsBodyPast body n columns basis ⊎ IsPriceListPast body cost n columns basis ⊎
      IsHelperListPast cost n columns basis ⊎ IsShareWeightPast body n basis

-- the helpers that follow: of `more` customers from c on, each whose helper stays independent of the columns before it
abbrev pub Follow : ℕ → ℕ → ℕ → List Column → List ℕ → Type 0
Follow n zero c before [] = Unit {0}
Follow n zero c before (x ∷ xs) = ⊥
Follow n (suc more) c before [] =
    (AreIndependent n (before ++ helper c ∷ []) → ⊥) × Follow n more (suc c) before []
Follow n (suc more) c before (x ∷ xs) =
    ((c ≡ x) × AreIndependent n (before ++ helper c ∷ []) ×
    Follow n more (suc c) (before ++ helper c ∷ []) xs)
    ⊎ ((AreIndependent n (before ++ helper c ∷ []) → ⊥) × Follow n more (suc c) before (x ∷ xs))

-- a listed basis is too wide: its first m entries are independent, and with the helpers that follow they are a basis past
-- the caps of 2^40 and 2^84
pub record IsTooWide (n : ℕ) (routes entries : List Column) : Type 0 where
  pub m : ℕ
  pub some : m ≤ length entries
  pub independent : AreIndependent n (take m entries)
  pub customers : List ℕ
  pub follow : Follow n n 0 (take m entries) customers
  pub past : IsPast (2 ^ 40) (2 ^ 84) n (helpers n ++ routes) (take m entries
      ++ map helper customers)
