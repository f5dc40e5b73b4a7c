-- Helpers that come back.
use Rattle.std.proofs.Common.{◌≡◌, ◌≢◌, ◌∙◌, ℕ, suc, ◌+◌, ◌<◌, ◌≤◌, arith, refl, sym, ap, subst, ℤ, pos, ◌*ℤ◌, ◌≤ℤ◌, Bool, true, false, cond, List, [], ◌∷◌, length, length-set, get_or, get_or-set_same, get_or-set_other, ◌⊎◌, inl, inr}
use Rattle.std.proofs.lemmas.Int.{ints}
use Rattle.std.proofs.lemmas.Bool.{cases_lt}
use Rattle.fleet_model.specs.Equations.{Column, column_at, entry, helper, serves, total, total_from}
use Rattle.fleet_model.proofs.Signs.{same_or_not}
use Rattle.fleet_model.proofs.Totals.{total_one}
use Rattle.master_table.specs.Tableau.{IsTableau, Tableau, basis_columns, entry_at, multipliers, row_at, size}
use Rattle.master_table.specs.Pivoting.{IsPivotOf}
use Rattle.master_table.proofs.PastCaps.{table_basis}
use Rattle.master_table.specs.Expansion.{expansion}
use Rattle.master_simplex.specs.Phase.{AreBasic, IsFeasible}
use Rattle.master_table.proofs.Factors.{cofactors, common_above, gathered, gathered_at, length_gathered, product_of, spreads}
use Rattle.master_table.proofs.Bases.{basis_column, body_at}
use Rattle.master_table.proofs.Units.{none_there, one_at, one_there}

expansion_zero : (ms : List ℤ) (basis : List Column) (ks : List ℤ) (rows : List (List ℤ)) (s : ℕ → Bool)
    → ((j : ℕ) → j < length rows → (entry ms (column_at basis j) ≡ pos 0) ⊎ (total s (get_or rows j []) ≡ pos 0)) → expansion ms basis ks rows s ≡ pos 0
expansion_zero ms [] ks rows s h = refl
expansion_zero ms (b ∷ bs) [] rows s h = refl
expansion_zero ms (b ∷ bs) (k ∷ ks) [] s h = refl
expansion_zero ms (b ∷ bs) (k ∷ ks) (row ∷ rows) s h =
    let here = vanishes k (entry ms b) (total s row) (h 0 (omega arith)) in
    let rest = expansion_zero ms bs ks rows s (λ j lt. h (suc j) (omega arith)) in
    omega (arith, ints)
  where
    vanishes : (k e z : ℤ) → (e ≡ pos 0) ⊎ (z ≡ pos 0) → (k *ℤ e) *ℤ z ≡ pos 0
    vanishes k e z (inl none) = ap (λ x. (k *ℤ x) *ℤ z) none ∙ (let a : k *ℤ pos 0 ≡ pos 0 = omega (arith, ints) in ap (λ x. x *ℤ z) a ∙ omega (arith, ints))
    vanishes k e z (inr none) = ap (λ x. (k *ℤ e) *ℤ x) none ∙ omega (arith, ints)

unit_at : (n c x : ℕ) → x < n → get_or (gathered (one_at c) 0 n) x (pos 0) ≡ one_at c x
unit_at n c x lt = let e : 0 + x ≡ x = omega arith in gathered_at (one_at c) 0 n x (pos 0) lt ∙ ap (one_at c) e

module _ (t : Tableau) (h : IsTableau t) where
  -- a helper's entry of a row
  helper_entry : (ms : List ℤ) (c : ℕ) → c < size t → entry ms (column_at t.columns c) ≡ get_or ms c (pos 0)
  helper_entry ms c lt = ap (entry ms) (h.columns.helped c lt) ∙ total_one c ms

  -- some row of an added column has an entry at each helper outside the basis
  pub some_added_row : (c : ℕ) → c < size t → ((i : ℕ) → i < size t → get_or t.basis i 0 ≢ c) → ((i : ℕ) → i < size t → size t ≤ get_or t.basis i 0 → entry_at t i c ≡ pos 0) → ⊥
  some_added_row c lt outside none =
      let unit = gathered (one_at c) 0 (size t) in
      let s = serves (helper c) in
      let e = spreads (size t) (basis_columns t) (λ i. multipliers (size t) (row_at t i)) (table_basis t h) unit (length_gathered (one_at c) 0 (size t)) s in
      let one : total s unit ≡ pos 1 = total_one c unit ∙ unit_at (size t) c c lt ∙ one_there c in
      let zero = expansion_zero unit (basis_columns t) (cofactors (gathered (λ i. entry (multipliers (size t) (row_at t i)) (column_at (basis_columns t) i)) 0 (size t))) (gathered (λ i. multipliers (size t) (row_at t i)) 0 (size t)) s
      (λ j l. let lj : j < size t = (let q = length_gathered (λ i. multipliers (size t) (row_at t i)) 0 (size t) in omega arith) in term j lj (cases_lt (get_or t.basis j 0) (size t))) in
      let p = common_above (size t) (basis_columns t) (λ i. multipliers (size t) (row_at t i)) (table_basis t h) in
      let f = ap (λ z. product_of (gathered (λ i. entry (multipliers (size t) (row_at t i)) (column_at (basis_columns t) i)) 0 (size t)) *ℤ z) one in
      absurd (omega (arith, ints))
    where
      row_is : (j : ℕ) → j < size t → get_or (gathered (λ i. multipliers (size t) (row_at t i)) 0 (size t)) j [] ≡ multipliers (size t) (row_at t j)
      row_is j lj = let q : 0 + j ≡ j = omega arith in gathered_at (λ i. multipliers (size t) (row_at t i)) 0 (size t) j [] lj ∙ ap (λ i. multipliers (size t) (row_at t i)) q

      term : (j : ℕ) → j < size t → (get_or t.basis j 0 < size t) ⊎ (size t ≤ get_or t.basis j 0)
          → (entry (gathered (one_at c) 0 (size t)) (column_at (basis_columns t) j) ≡ pos 0) ⊎ (total (serves (helper c)) (get_or (gathered (λ i. multipliers (size t) (row_at t i)) 0 (size t)) j []) ≡ pos 0)
      term j lj (inl small) =
          inl (ap (entry (gathered (one_at c) 0 (size t))) (basis_column t h j lj) ∙ helper_entry (gathered (one_at c) 0 (size t)) (get_or t.basis j 0) small
          ∙ unit_at (size t) c (get_or t.basis j 0) small ∙ none_there c (get_or t.basis j 0) (outside j lj))
      term j lj (inr le) =
          let enough = h.columns.enough in
          let at = body_at t h j c lj (omega arith) in
          inr (ap (total (serves (helper c))) (row_is j lj) ∙ ap (entry (multipliers (size t) (row_at t j))) (sym (h.columns.helped c lt)) ∙ sym at ∙ none j lj le)

  -- a basis of all helpers has no share below 0
  pub all_helpers : AreBasic t (size t) → IsFeasible t
  all_helpers basic i lt = subst (λ z. pos 0 ≤ℤ z) (sym (h.spelled i (omega arith)).right) (not_below_from (λ c. true) 0 (multipliers (size t) (row_at t i)) (λ c l. number c (let w = (h.bodies i lt).whole in omega arith)))
    where
      chosen : (b : Bool) (m : ℤ) → pos 0 ≤ℤ m → pos 0 ≤ℤ cond b m (pos 0)
      chosen true m le = le
      chosen false m le = omega (arith, ints)

      not_below_from : (s : ℕ → Bool) (c : ℕ) (ms : List ℤ) → ((k : ℕ) → k < length ms → pos 0 ≤ℤ get_or ms k (pos 0)) → pos 0 ≤ℤ total_from s c ms
      not_below_from s c [] p = omega (arith, ints)
      not_below_from s c (m ∷ ms) p =
          let here = chosen (s c) m (p 0 (omega arith)) in
          let rest = not_below_from s (suc c) ms (λ k l. p (suc k) (omega arith)) in
          omega (arith, ints)

      number : (c : ℕ) → c < size t → pos 0 ≤ℤ get_or (multipliers (size t) (row_at t i)) c (pos 0)
      number c l =
          let found = basic c l in
          let j = found.0 in
          let same : column_at (basis_columns t) j ≡ column_at t.columns c = basis_column t h j found.1 ∙ ap (column_at t.columns) found.2 in
          let is : entry (multipliers (size t) (row_at t i)) (column_at (basis_columns t) j) ≡ get_or (multipliers (size t) (row_at t i)) c (pos 0) =
          ap (entry (multipliers (size t) (row_at t i))) same ∙ helper_entry (multipliers (size t) (row_at t i)) c l in
          subst (λ z. pos 0 ≤ℤ z) is (by_cases j found.1 (same_or_not j i))
        where
          by_cases : (j : ℕ) → j < size t → (j ≡ i) ⊎ (j ≢ i) → pos 0 ≤ℤ entry (multipliers (size t) (row_at t i)) (column_at (basis_columns t) j)
          by_cases j lj (inl e) = subst (λ k. pos 0 ≤ℤ entry (multipliers (size t) (row_at t i)) (column_at (basis_columns t) k)) (sym e) (let o = (h.bodies i lt).own in omega (arith, ints))
          by_cases j lj (inr apart) = subst (λ z. pos 0 ≤ℤ z) (sym ((h.bodies i lt).others j lj apart)) (omega (arith, ints))

pub basic_same : (t : Tableau) (c row : ℕ) → AreBasic t c → row < size t → get_or t.basis row 0 ≡ c → AreBasic t (c + 1)
basic_same t c row h lt is d l = by_cases (cases_lt d c)
  where
    by_cases : (d < c) ⊎ (c ≤ d) → (i : ℕ) × (i < size t) × (get_or t.basis i 0 ≡ d)
    by_cases (inl below) = h d below
    by_cases (inr le) = (row, lt, is ∙ (let e : c ≡ d = omega arith in e))

pub basic_after : (old new : Tableau) (c row : ℕ) → c < size old → AreBasic old c → row < size old → size old ≤ get_or old.basis row 0 → IsPivotOf row c old new → AreBasic new (c + 1)
basic_after old new c row small h lt added pivot d l = by_cases (cases_lt d c)
  where
    same_size : size new ≡ size old
    same_size = ap length pivot.basis ∙ length-set old.basis row c

    by_cases : (d < c) ⊎ (c ≤ d) → (i : ℕ) × (i < size new) × (get_or new.basis i 0 ≡ d)
    by_cases (inr le) =
        let s = same_size in
        (row, omega arith, ap (λ basis. get_or basis row 0) pivot.basis ∙ get_or-set_same old.basis row c 0 lt ∙ (let e : c ≡ d = omega arith in e))
    by_cases (inl below) =
        let s = same_size in
        let found = h d below in
        let apart : found.0 ≢ row = λ e. let at = ap (λ i. get_or old.basis i 0) e in let is = found.2 in absurd (omega arith) in
        (found.0, (let l2 = found.1 in omega arith), ap (λ basis. get_or basis found.0 0) pivot.basis ∙ get_or-set_other old.basis row found.0 c 0 apart ∙ found.2)
