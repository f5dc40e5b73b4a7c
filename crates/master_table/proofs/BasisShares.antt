-- The share weight of a basis.
use Rattle.std.proofs.Common.{◌≡◌, ◌≢◌, ◌∙◌, ℕ, zero, suc, ◌+◌, ◌-◌, ◌*◌, ◌/◌, ◌<◌, ◌≤◌, arith, refl, sym, ap, subst, le_trans, ℤ, pos, negsuc, ◌≤ℤ◌, unsigned_abs, List, get_or, ◌⊎◌, inl, inr, ◌↔◌}
use Rattle.std.specs.Int.{IsGcd, ◌∣◌}
use Rattle.std.proofs.lemmas.Int.{ints}
use Rattle.std.proofs.lemmas.Bool.{cases_eq}
use Rattle.std.proofs.Math.Nat.{dvd_trans, le_of_dvd, one-dvd, mul-dvd-mul_right}
use Rattle.ev_units.specs.Units.{IsLcm, IsLcmPast}
use Rattle.ev_units.proofs.Divisors.{lcm_exists, pos_cofactor, pos_from_IsLcm, whole_iff_reduced_divides}
use Rattle.fleet_model.proofs.Gcd.{gcd_exists}
use Rattle.fleet_model.specs.Basis.{IsBody, IsShareWeight}
use Rattle.fleet_model.specs.Equations.{column_at, entry, right_side}
use Rattle.fleet_model.specs.Wide.{IsShareWeightPast}
use Rattle.fleet_model.proofs.Unique.{one_body}
use Rattle.master_table.specs.Tableau.{IsTableau, Tableau, basis_columns, entry_at, multipliers, row_at, size}
use Rattle.master_table.specs.ShareWeight.{IsRowsWeight, own_at, right_at}
use Rattle.master_table.proofs.Bases.{basis_entry}

-- ---- the divisor of one row
pub whole_where_divided : (own right g : ℕ) → 0 < own → IsGcd right own g → (W : ℕ) → (own ∣ (W * right)) ↔ ((own / g) ∣ W)
whole_where_divided own right g some h W = whole_iff_reduced_divides right own g W some h

-- ---- the least number for some rows
pub first_weight : (t : Tableau) → IsRowsWeight t 0 1
first_weight t = record { some = omega arith; whole = λ i lt. absurd (omega arith); least = λ V h. one-dvd V }

abbrev pub IsDivisor : Tableau → ℕ → ℕ → Type 0
IsDivisor t k q = (W : ℕ) → (own_at t k ∣ (W * right_at t k)) ↔ (q ∣ W)

pub next_weight : (t : Tableau) (k W q m : ℕ) → IsRowsWeight t k W → 0 < q → IsDivisor t k q → IsLcm W q m → IsRowsWeight t (k + 1) m
next_weight t k W q m before some divisor lcm = record {
  some = pos_from_IsLcm W q m before.some some lcm;
  whole = λ i lt. whole_at i lt (cases_eq i k);
  least = λ V h. lcm.2 V (before.least V (λ i lt. h i (omega arith))) ((divisor V).0 (h k (omega arith)));
}
  where
    whole_at : (i : ℕ) → i < k + 1 → (i ≡ k) ⊎ (i ≢ k) → own_at t i ∣ (m * right_at t i)
    whole_at i lt (inl e) = subst (λ j. own_at t j ∣ (m * right_at t j)) (sym e) ((divisor m).1 lcm.1)
    whole_at i lt (inr apart) = dvd_trans (own_at t i) (before.whole i (omega (arith, lt, apart))) (mul-dvd-mul_right W lcm.0 (right_at t i))

-- ---- the numbers of a table's rows
size_is : (z : ℤ) → pos 0 ≤ℤ z → pos (unsigned_abs z) ≡ z
size_is (pos k) above = refl
size_is (negsuc k) above = absurd (omega (arith, ints))

module _ (t : Tableau) (h : IsTableau t) where
  pub own_is : (i : ℕ) → i < size t → pos (own_at t i) ≡ entry (multipliers (size t) (row_at t i)) (column_at (basis_columns t) i)
  own_is i lt =
      let is = basis_entry t h i i lt lt in
      let above = (h.bodies i lt).own in
      size_is (entry_at t i (get_or t.basis i 0)) (subst (λ z. pos 0 ≤ℤ z) (sym is) (omega (arith, ints))) ∙ is

  pub own_above : (i : ℕ) → i < size t → 0 < own_at t i
  own_above i lt = let is = own_is i lt in let above = (h.bodies i lt).own in omega (arith, ints)

  own_size : (i : ℕ) → i < size t → own_at t i ≡ unsigned_abs (entry (multipliers (size t) (row_at t i)) (column_at (basis_columns t) i))
  own_size i lt = ap unsigned_abs (basis_entry t h i i lt lt)

  right_size : (i : ℕ) → i < size t → right_at t i ≡ unsigned_abs (right_side (multipliers (size t) (row_at t i)))
  right_size i lt = ap unsigned_abs (h.spelled i (omega arith)).right

  -- the least number for all rows is the share weight
  pub weight_is : (W : ℕ) → IsRowsWeight t (size t) W → IsShareWeight (size t) (basis_columns t) W
  weight_is W w = record {
    some = w.some;
    whole = λ i ms lt body. subst (λ xs. unsigned_abs (entry xs (column_at (basis_columns t) i)) ∣ (W * unsigned_abs (right_side xs))) (sym (same i ms lt body))
        (subst (λ r. unsigned_abs (entry (multipliers (size t) (row_at t i)) (column_at (basis_columns t) i)) ∣ (W * r)) (right_size i lt)
        (subst (λ o. o ∣ (W * right_at t i)) (own_size i lt) (w.whole i lt)));
    least = λ V some makes. le_of_dvd some (w.least V (λ i lt.
        subst (λ o. o ∣ (V * right_at t i)) (sym (own_size i lt))
        (subst (λ r. unsigned_abs (entry (multipliers (size t) (row_at t i)) (column_at (basis_columns t) i)) ∣ (V * r)) (sym (right_size i lt))
        (makes i (multipliers (size t) (row_at t i)) lt (h.bodies i lt)))));
  }
    where
      same : (i : ℕ) (ms : List ℤ) → i < size t → IsBody (size t) (basis_columns t) i ms → ms ≡ multipliers (size t) (row_at t i)
      same i ms lt body = one_body (size t) (basis_columns t) i ms (multipliers (size t) (row_at t i)) lt h.determined body (h.bodies i lt)

  -- each row has a divisor
  row_divisor : (i : ℕ) → i < size t → (q : ℕ) × (0 < q) × IsDivisor t i q
  row_divisor i lt =
      let found = gcd_found (right_at t i) (own_at t i) in
      let some = own_above i lt in
      (own_at t i / found.0, pos_cofactor found.0 (own_at t i) some found.1.1, λ W. whole_iff_reduced_divides (right_at t i) (own_at t i) found.0 W some found.1)
    where
      gcd_found : (a b : ℕ) → (g : ℕ) × IsGcd a b g
      gcd_found a b = gcd_exists b a b (omega arith)

  -- the least number for more rows is no less
  more_rows : (m k W : ℕ) → k + m ≤ size t → IsRowsWeight t k W → (V : ℕ) × IsRowsWeight t (k + m) V × (W ≤ V)
  more_rows zero k W le w = (W, subst (λ j. IsRowsWeight t j W) (let e : k ≡ k + 0 = omega arith in e) w, omega arith)
  more_rows (suc m) k W le w =
      let q = row_divisor k (omega arith) in
      let lcm = lcm_exists W q.0 w.some q.1 in
      let next = next_weight t k W q.0 lcm.0 w q.1 q.2 lcm.1 in
      let found = more_rows m (k + 1) lcm.0 (omega arith) next in
      let up : W ≤ lcm.0 = le_of_dvd next.some lcm.1.0 in
      (found.0, subst (λ j. IsRowsWeight t j found.0) (let e : (k + 1) + m ≡ k + suc m = omega arith in e) found.1, le_trans up found.2)

  pub weight_past : (cap k W q : ℕ) → k < size t → IsRowsWeight t k W → 0 < q → IsDivisor t k q → IsLcmPast cap W q → IsShareWeightPast cap (size t) (basis_columns t)
  weight_past cap k W q lt w some divisor (m, lcm, past) =
      let next = next_weight t k W q m w some divisor lcm in
      let all = more_rows (size t - (k + 1)) (k + 1) m (omega arith) next in
      let whole = subst (λ j. IsRowsWeight t j all.0) (let e : (k + 1) + (size t - (k + 1)) ≡ size t = omega arith in e) all.1 in
      (all.0, weight_is all.0 whole, omega (arith, past, all.2))
