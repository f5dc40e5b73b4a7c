-- The choice of the row that leaves, row by row.
use Rattle.std.proofs.Common.{◌≡◌, ◌∙◌, ℕ, ◌+◌, ◌<◌, ◌≤◌, arith, refl, sym, ap, subst, le_trans, ℤ, pos, negsuc, ◌<ℤ◌, ◌≤ℤ◌, unsigned_abs, Bool, true, false, Option, Some, None, List, [], ◌∷◌, map, ◌⊎◌, inl, inr}
use Rattle.std.proofs.lemmas.Int.{ints}
use Rattle.std.proofs.lemmas.Bool.{cases_lt}
use Rattle.master_table.specs.Tableau.{IsTableau, IsWithinCaps, Tableau, entry_at, row_at, size}
use Rattle.master_simplex.specs.Falling.{height}
use Rattle.master_simplex.specs.Phase.{IsLeast, bound, entries_precede, key, less_at, or_later, precedes, row_height}
use Rattle.master_simplex.proofs.Choice.{precedes_height}
use Rattle.master_simplex.proofs.Tables.{entry_within, key_within, length_key}

size_of : (z : ℤ) → pos 0 <ℤ z → (0 < unsigned_abs z) × (pos (unsigned_abs z) ≡ z)
size_of (pos k) above = (omega (arith, ints), refl)
size_of (negsuc k) above = absurd (omega (arith, ints))

heights : (t : Tableau) → IsTableau t → IsWithinCaps t → (places : List ℕ) (col i r : ℕ) → i < size t → r < size t → pos 0 <ℤ entry_at t i col → pos 0 <ℤ entry_at t r col
    → ((precedes (entry_at t i col) (entry_at t r col) (key places (row_at t i)) (key places (row_at t r)) ≡ true) × (row_height t places col i ≤ row_height t places col r))
    ⊎ ((precedes (entry_at t i col) (entry_at t r col) (key places (row_at t i)) (key places (row_at t r)) ≡ false) × (row_height t places col r ≤ row_height t places col i))
unfolding row_height
heights t h w places col i r li lr pi pr =
    let a = size_of (entry_at t i col) pi in
    let b = size_of (entry_at t r col) pr in
    let found = precedes_height (bound t) (unsigned_abs (entry_at t i col)) (unsigned_abs (entry_at t r col)) (key places (row_at t i)) (key places (row_at t r)) a.0 b.0
    (le_trans (entry_within t h w i col (omega arith)) (omega arith)) (le_trans (entry_within t h w r col (omega arith)) (omega arith))
    (length_key places (row_at t i) ∙ sym (length_key places (row_at t r))) (key_within t h w i places (omega arith)) (key_within t h w r places (omega arith)) in
    subst (λ x. ((precedes x (entry_at t r col) (key places (row_at t i)) (key places (row_at t r)) ≡ true) × (height (bound t) (unsigned_abs (entry_at t i col)) (key places (row_at t i)) ≤ height (bound t) (unsigned_abs (entry_at t r col)) (key places (row_at t r))))
    ⊎ ((precedes x (entry_at t r col) (key places (row_at t i)) (key places (row_at t r)) ≡ false) × (height (bound t) (unsigned_abs (entry_at t r col)) (key places (row_at t r)) ≤ height (bound t) (unsigned_abs (entry_at t i col)) (key places (row_at t i))))) a.1
    (subst (λ y. ((precedes (pos (unsigned_abs (entry_at t i col))) y (key places (row_at t i)) (key places (row_at t r)) ≡ true) × (height (bound t) (unsigned_abs (entry_at t i col)) (key places (row_at t i)) ≤ height (bound t) (unsigned_abs (entry_at t r col)) (key places (row_at t r))))
    ⊎ ((precedes (pos (unsigned_abs (entry_at t i col))) y (key places (row_at t i)) (key places (row_at t r)) ≡ false) × (height (bound t) (unsigned_abs (entry_at t r col)) (key places (row_at t r)) ≤ height (bound t) (unsigned_abs (entry_at t i col)) (key places (row_at t i))))) b.1 found)

not_both : (b : Bool) → b ≡ true → b ≡ false → ⊥
not_both true p q = absurd (cc)
not_both false p q = absurd (cc)

pub same_order : (t : Tableau) (col i r : ℕ) (places : List ℕ) → entries_precede t col i r places ≡ precedes (entry_at t i col) (entry_at t r col) (map (λ j. entry_at t i j) places) (map (λ j. entry_at t r j) places)
same_order t col i r [] = refl
same_order t col i r (place ∷ places) = ap (or_later (less_at t col i r place)) (same_order t col i r places)

module _ (t : Tableau) (places : List ℕ) (col i : ℕ) where
  pub least_keep : (best : Option ℕ) → IsLeast t places col i best → entry_at t i col ≤ℤ pos 0 → IsLeast t places col (i + 1) best
  least_keep None h none = λ k lt. by_cases k (cases_lt k i) lt
    where
      by_cases : (k : ℕ) → (k < i) ⊎ (i ≤ k) → k < i + 1 → entry_at t k col ≤ℤ pos 0
      by_cases k (inl l) lt = h k l
      by_cases k (inr le) lt = subst (λ j. entry_at t j col ≤ℤ pos 0) (let e : i ≡ k = omega arith in e) none
  least_keep (Some r) (below, above, least) none = (omega arith, above, λ k lt more. by_cases k more (cases_lt k i) lt)
    where
      by_cases : (k : ℕ) → pos 0 <ℤ entry_at t k col → (k < i) ⊎ (i ≤ k) → k < i + 1 → row_height t places col r ≤ row_height t places col k
      by_cases k more (inl l) lt = least k l more
      by_cases k more (inr le) lt = let e : k ≡ i = omega arith in let m = subst (λ j. pos 0 <ℤ entry_at t j col) e more in absurd (omega (arith, ints))

  pub least_first : IsLeast t places col i None → pos 0 <ℤ entry_at t i col → IsLeast t places col (i + 1) (Some i)
  least_first h above = (omega arith, above, λ k lt more. by_cases k more (cases_lt k i) lt)
    where
      by_cases : (k : ℕ) → pos 0 <ℤ entry_at t k col → (k < i) ⊎ (i ≤ k) → k < i + 1 → row_height t places col i ≤ row_height t places col k
      by_cases k more (inl l) lt = let none = h k l in absurd (omega (arith, ints))
      by_cases k more (inr le) lt = let e : i ≡ k = omega arith in subst (λ j. row_height t places col i ≤ row_height t places col j) e (omega arith)

  module _ (h : IsTableau t) (w : IsWithinCaps t) (inside : i < size t) (above : pos 0 <ℤ entry_at t i col) (r : ℕ) (least : IsLeast t places col i (Some r)) where
    pub least_new : precedes (entry_at t i col) (entry_at t r col) (key places (row_at t i)) (key places (row_at t r)) ≡ true → IsLeast t places col (i + 1) (Some i)
    least_new is_first = (omega arith, above, λ k lt more. by_cases k more (cases_lt k i) lt (let b = least.0 in heights t h w places col i r inside (omega arith) above least.1))
      where
        by_cases : (k : ℕ) → pos 0 <ℤ entry_at t k col → (k < i) ⊎ (i ≤ k) → k < i + 1
            → ((precedes (entry_at t i col) (entry_at t r col) (key places (row_at t i)) (key places (row_at t r)) ≡ true) × (row_height t places col i ≤ row_height t places col r))
            ⊎ ((precedes (entry_at t i col) (entry_at t r col) (key places (row_at t i)) (key places (row_at t r)) ≡ false) × (row_height t places col r ≤ row_height t places col i))
            → row_height t places col i ≤ row_height t places col k
        by_cases k more (inl l) lt (inl (p, le)) = le_trans le (least.2 k l more)
        by_cases k more (inl l) lt (inr (p, le)) = absurd (not_both (precedes (entry_at t i col) (entry_at t r col) (key places (row_at t i)) (key places (row_at t r))) is_first p)
        by_cases k more (inr ge) lt any = let e : i ≡ k = omega arith in subst (λ j. row_height t places col i ≤ row_height t places col j) e (omega arith)

    pub least_old : precedes (entry_at t i col) (entry_at t r col) (key places (row_at t i)) (key places (row_at t r)) ≡ false → IsLeast t places col (i + 1) (Some r)
    least_old not_yet = (let b = least.0 in omega arith, least.1, λ k lt more. by_cases k more (cases_lt k i) lt (let b = least.0 in heights t h w places col i r inside (omega arith) above least.1))
      where
        by_cases : (k : ℕ) → pos 0 <ℤ entry_at t k col → (k < i) ⊎ (i ≤ k) → k < i + 1
            → ((precedes (entry_at t i col) (entry_at t r col) (key places (row_at t i)) (key places (row_at t r)) ≡ true) × (row_height t places col i ≤ row_height t places col r))
            ⊎ ((precedes (entry_at t i col) (entry_at t r col) (key places (row_at t i)) (key places (row_at t r)) ≡ false) × (row_height t places col r ≤ row_height t places col i))
            → row_height t places col r ≤ row_height t places col k
        by_cases k more (inl l) lt any = least.2 k l more
        by_cases k more (inr ge) lt (inl (p, le)) = absurd (not_both (precedes (entry_at t i col) (entry_at t r col) (key places (row_at t i)) (key places (row_at t r))) p not_yet)
        by_cases k more (inr ge) lt (inr (p, le)) = let e : i ≡ k = omega arith in subst (λ j. row_height t places col r ≤ row_height t places col j) e le
