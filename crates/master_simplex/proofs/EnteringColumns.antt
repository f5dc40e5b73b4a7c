-- The choice of the column that enters, column by column.
use Rattle.std.proofs.Common.{◌≡◌, ℕ, ◌+◌, ◌<◌, ◌≤◌, arith, subst, pos, ◌≤ℤ◌, Option, Some, None, ◌⊎◌, inl, inr}
use Rattle.std.proofs.lemmas.Bool.{cases_lt}
use Rattle.master_table.specs.Tableau.{Tableau, size}
use Rattle.master_simplex.specs.Phase.{IsGaining, gain}
use Rattle.master_simplex.specs.declared.phase.Goal.{Goal}

-- a column without a gain changes nothing
pub gaining_keep : (goal : Goal) (t : Tableau) (k : ℕ) (best : Option ℕ) → IsGaining goal t k best → gain goal t k ≤ℤ pos 0 → IsGaining goal t (k + 1) best
gaining_keep goal t k (Some col) h none = h
gaining_keep goal t k None h none = λ j le lt. by_cases j le lt (cases_lt j k)
  where
    by_cases : (j : ℕ) → size t ≤ j → j < k + 1 → (j < k) ⊎ (k ≤ j) → gain goal t j ≤ℤ pos 0
    by_cases j le lt (inl below) = h j le below
    by_cases j le lt (inr above) = subst (λ i. gain goal t i ≤ℤ pos 0) (let e : k ≡ j = omega arith in e) none
