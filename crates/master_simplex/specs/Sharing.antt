-- The shares of a basis in whole numbers: the right side of a row over its own coefficient, times a number that makes them whole;
-- and its numbers, one for each customer.
use Rattle.std.specs.Prelude.{ℕ, zero, suc, ◌*◌, ◌/◌, cond, nat_lt, ◌+◌, List, [], ◌∷◌, ◌++◌, get_or, ℤ}
use Rattle.master_table.specs.ShareWeight.{own_at, right_at}
use Rattle.master_table.specs.Tableau.{Tableau, multipliers, prices_of, row_at, size}
use Rattle.master_simplex.specs.declared.phase.Goal.{Goal}
use Rattle.master_simplex.specs.declared.phase.Goal.TheVariants.{Helpers, Cost}

-- the share of a row's basis column, times `over`
unfoldable pub share_at : Tableau → ℕ → ℕ → ℕ
share_at t over i = over * right_at t i / own_at t i

-- the shares above 0 of the first k rows
abbrev pub given : Tableau → ℕ → ℕ → List (ℕ × ℕ)
given t over zero = []
given t over (suc k) =
    given t over k
    ++ cond (nat_lt 0 (share_at t over k)) ((get_or t.basis k 0, share_at t over k) ∷ []) []

-- one number for each customer: the helper list, or the price list
abbrev pub numbers : Goal → Tableau → List ℤ
numbers Helpers t = multipliers (size t) (row_at t (size t + 1))
numbers Cost t = prices_of (size t) (row_at t (size t))
