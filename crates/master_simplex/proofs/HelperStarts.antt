-- How phases begin, and helpers that leave.
use Rattle.std.proofs.Common.{◌≡◌, ◌≢◌, ◌∙◌, ℕ, zero, suc, ◌+◌, ◌<◌, ◌≤◌, arith, refl, sym, ap, ap₂, subst, ℤ, pos, negsuc, neg_ℤ, ◌-ℤ◌, ◌*ℤ◌, ◌<ℤ◌, ◌≤ℤ◌, Bool, true, false, cond, List, [], ◌∷◌, map, length, length-set, get_or, get_or-set_same, get_or-set_other, Result, Ok, Err, OnOk, ◌⊎◌, inl, inr}
use Rattle.std.proofs.lemmas.Int.{ints}
use Rattle.std.proofs.lemmas.Bool.{cases_lt}
use Rattle.fleet_model.specs.Equations.{Column, column_at, entry, help_of, total}
use Rattle.fleet_model.proofs.Ring.{*ℤ_pos}
use Rattle.fleet_model.proofs.Signs.{factor_pos, same_or_not, zero_times}
use Rattle.master_table.specs.Tableau.{Equation, IsTableau, Tableau, basis_columns, entry_at, multipliers, row_at, size}
use Rattle.master_table.specs.Pivoting.{IsCombinationOf, IsPivotOf, is_below, turned_row}
use Rattle.master_table.proofs.PastCaps.{table_basis}
use Rattle.master_table.proofs.Combinations.{spelled_length}
use Rattle.master_table.specs.Expansion.{expansion}
use Rattle.master_simplex.specs.Falling.{IsLexPositive}
use Rattle.master_simplex.specs.Phase.{AreHelpersIdle, IsDriven, IsFeasible, IsIdle, IsPhase, key}
use Rattle.master_table.proofs.Factors.{common_above, cofactors, factor_above, gathered, gathered_at, length_factors, length_gathered, product_of, spreads}
use Rattle.master_simplex.proofs.Lex.{by_sign}
use Rattle.master_table.proofs.Bases.{basis_column, basis_entry, excess_body}

-- what follows where a call succeeds
pub on_ok : {A E : Type 0} (r : Result A E) (P Q : Type 0) → OnOk r P → (P → Q) → OnOk r Q
on_ok (Ok a) P Q p f = f p
on_ok (Err e) P Q p f = p

-- ---- the basis itself as the places of a phase
own_positive : (F : ℕ → ℤ) (places : List ℕ) (i : ℕ) → i < length places → pos 0 <ℤ F (get_or places i 0) → ((k : ℕ) → k < length places → k ≢ i → F (get_or places k 0) ≡ pos 0) → IsLexPositive (map F places)
own_positive F [] i lt above none = absurd (omega arith)
own_positive F (j ∷ js) zero lt above none = inl above
own_positive F (j ∷ js) (suc i) lt above none =
    inr (none 0 (omega arith) (λ e. absurd (omega arith)), own_positive F js i (omega arith) above (λ k l apart. none (suc k) (omega arith) (λ e. apart (omega arith))))

module _ (t : Tableau) (h : IsTableau t) where
  pub start : IsFeasible t → IsPhase t.basis t
  start feasible = record {
    count = refl;
    placed = λ k lt. h.placed k lt;
    determined = h.determined;
    positive = λ i lt. by_cases i lt (by_sign (row_at t i).right);
  }
    where
      by_cases : (i : ℕ) → i < size t → ((row_at t i).right <ℤ pos 0) ⊎ ((row_at t i).right ≡ pos 0) ⊎ (pos 0 <ℤ (row_at t i).right) → IsLexPositive (key t.basis (row_at t i))
      by_cases i lt (inl below) = absurd (let f = feasible i lt in omega (arith, ints))
      by_cases i lt (inr (inr above)) = inl above
      by_cases i lt (inr (inl nothing)) =
          inr (
            nothing,
            own_positive (λ j. entry_at t i j) t.basis i lt (subst (λ z. pos 0 <ℤ z) (sym (basis_entry t h i i lt lt)) (h.bodies i lt).own)
                (λ k lk apart. basis_entry t h i k lt lk ∙ (h.bodies i lt).others k lk apart),
          )

-- positive rows have no right side below 0
pub phase_feasible : (places : List ℕ) (t : Tableau) → IsPhase places t → IsFeasible t
phase_feasible places t h i lt = by_cases (h.positive i lt)
  where
    by_cases : IsLexPositive (key places (row_at t i)) → pos 0 ≤ℤ (row_at t i).right
    by_cases (inl above) = omega (arith, ints)
    by_cases (inr (none, later)) = omega (arith, ints)

-- ---- the helper row's right side is what the shares of the helpers add up to
expansion_not_below : (ms : List ℤ) (basis : List Column) (ks : List ℤ) (rows : List (List ℤ)) (s : ℕ → Bool)
    → ((j : ℕ) → j < length rows → pos 0 ≤ℤ ((get_or ks j (pos 0) *ℤ entry ms (column_at basis j)) *ℤ total s (get_or rows j []))) → pos 0 ≤ℤ expansion ms basis ks rows s
expansion_not_below ms [] ks rows s h = omega (arith, ints)
expansion_not_below ms (b ∷ bs) [] rows s h = omega (arith, ints)
expansion_not_below ms (b ∷ bs) (k ∷ ks) [] s h = omega (arith, ints)
expansion_not_below ms (b ∷ bs) (k ∷ ks) (row ∷ rows) s h =
    let here = h 0 (omega arith) in
    let rest = expansion_not_below ms bs ks rows s (λ j lt. h (suc j) (omega arith)) in
    omega (arith, ints)

terms_vanish : (ms : List ℤ) (basis : List Column) (ks : List ℤ) (rows : List (List ℤ)) (s : ℕ → Bool) → length basis ≡ length rows → length ks ≡ length rows
    → ((j : ℕ) → j < length rows → pos 0 ≤ℤ ((get_or ks j (pos 0) *ℤ entry ms (column_at basis j)) *ℤ total s (get_or rows j []))) → expansion ms basis ks rows s ≤ℤ pos 0
    → (j : ℕ) → j < length rows → ((get_or ks j (pos 0) *ℤ entry ms (column_at basis j)) *ℤ total s (get_or rows j [])) ≡ pos 0
terms_vanish ms [] ks rows s p q h le j lt = absurd (omega arith)
terms_vanish ms (b ∷ bs) [] rows s p q h le j lt = absurd (omega arith)
terms_vanish ms (b ∷ bs) (k ∷ ks) [] s p q h le j lt = absurd (omega arith)
terms_vanish ms (b ∷ bs) (k ∷ ks) (row ∷ rows) s p q h le zero lt =
    let here = h 0 (omega arith) in
    let rest = expansion_not_below ms bs ks rows s (λ i l. h (suc i) (omega arith)) in
    omega (arith, ints)
terms_vanish ms (b ∷ bs) (k ∷ ks) (row ∷ rows) s p q h le (suc j) lt =
    let here = h 0 (omega arith) in
    terms_vanish ms bs ks rows s (omega arith) (omega arith) (λ i l. h (suc i) (omega arith)) (omega (arith, ints)) j (omega arith)

not_below : (a b : ℤ) → pos 0 ≤ℤ a → pos 0 ≤ℤ b → pos 0 ≤ℤ (a *ℤ b)
not_below (pos a) (pos b) p q = omega (arith, ints)
not_below (negsuc a) b p q = absurd (omega (arith, ints))
not_below (pos a) (negsuc b) p q = absurd (omega (arith, ints))

not_above : (a b : ℤ) → pos 0 <ℤ a → b ≤ℤ pos 0 → (a *ℤ b) ≤ℤ pos 0
not_above (pos a) (pos zero) p q = omega (arith, ints)
not_above (pos a) (pos (suc b)) p q = absurd (omega (arith, ints))
not_above (pos a) (negsuc b) p q = omega (arith, ints)
not_above (negsuc a) b p q = absurd (omega (arith, ints))

module _ (t : Tableau) (h : IsTableau t) (feasible : IsFeasible t) (none : (row_at t (size t + 1)).right ≤ℤ pos 0) where
  abbrev f : ℕ → List ℤ
  f i = multipliers (size t) (row_at t i)

  abbrev owns : List ℤ
  owns = gathered (λ i. entry (multipliers (size t) (row_at t i)) (column_at (basis_columns t) i)) 0 (size t)

  abbrev numbers : List ℤ
  numbers = multipliers (size t) (row_at t (size t + 1))

  v_above : pos 0 <ℤ (row_at t (size t + 1)).weight
  v_above = h.helper_list.list.some

  all : expansion numbers (basis_columns t) (cofactors owns) (gathered f 0 (size t)) (λ c. true) ≤ℤ pos 0
  all =
      let e = spreads (size t) (basis_columns t) f (table_basis t h) numbers h.helper_list.list.whole (λ c. true) in
      let right = (h.spelled (size t + 1) (omega arith)).right in
      let sum : total (λ c. true) numbers ≤ℤ pos 0 = subst (λ z. z ≤ℤ pos 0) right none in
      let le = not_above (product_of owns) (total (λ c. true) numbers) (common_above (size t) (basis_columns t) f (table_basis t h)) sum in
      omega (arith, ints)

  row_is : (j : ℕ) → j < size t → get_or (gathered f 0 (size t)) j [] ≡ f j
  row_is j lt = let e : 0 + j ≡ j = omega arith in gathered_at f 0 (size t) j [] lt ∙ ap f e

  right_is : (j : ℕ) → j < size t → total (λ c. true) (get_or (gathered f 0 (size t)) j []) ≡ (row_at t j).right
  right_is j lt = ap (total (λ c. true)) (row_is j lt) ∙ sym (h.spelled j (omega arith)).right

  helped : (b : Column) → pos 0 ≤ℤ ((row_at t (size t + 1)).weight *ℤ pos (help_of b))
  helped b = not_below (row_at t (size t + 1)).weight (pos (help_of b)) (let v = v_above in omega (arith, ints)) (omega (arith, ints))

  term : (j : ℕ) → j < length (gathered f 0 (size t)) → pos 0 ≤ℤ ((get_or (cofactors owns) j (pos 0) *ℤ entry numbers (column_at (basis_columns t) j)) *ℤ total (λ c. true) (get_or (gathered f 0 (size t)) j []))
  term j l =
      let lt : j < size t = let e = length_gathered f 0 (size t) in omega arith in
      let k = factor_above (size t) (basis_columns t) f (table_basis t h) j lt in
      let pays = h.helper_list.list.pays j lt in
      let e = subst (λ z. pos 0 ≤ℤ z) (sym pays) (helped (column_at (basis_columns t) j)) in
      let r = subst (λ z. pos 0 ≤ℤ z) (sym (right_is j lt)) (feasible j lt) in
      not_below (get_or (cofactors owns) j (pos 0) *ℤ entry numbers (column_at (basis_columns t) j)) (total (λ c. true) (get_or (gathered f 0 (size t)) j []))
      (not_below (get_or (cofactors owns) j (pos 0)) (entry numbers (column_at (basis_columns t) j)) (omega (arith, ints)) e) r

  pub no_helper_share : (i : ℕ) → i < size t → get_or t.basis i 0 < size t → (row_at t i).right ≡ pos 0
  no_helper_share i lt helper_there =
      let count = length_gathered f 0 (size t) in
      let is = table_basis t h in
      let gone = terms_vanish numbers (basis_columns t) (cofactors owns) (gathered f 0 (size t)) (λ c. true) (is.count ∙ sym count) (length_factors (size t) (basis_columns t) f is ∙ sym count) term all i (omega arith) in
      let k = get_or (cofactors owns) i (pos 0) in
      let v = (row_at t (size t + 1)).weight in
      let b = column_at (basis_columns t) i in
      let one : help_of b ≡ 1 = ap help_of (basis_column t h i lt ∙ h.columns.helped (get_or t.basis i 0) helper_there) in
      let pays : entry numbers b ≡ v *ℤ pos 1 = h.helper_list.list.pays i lt ∙ ap (λ m. v *ℤ pos m) one in
      let above : pos 0 <ℤ entry numbers b = let va = v_above in omega (arith, ints) in
      let product = *ℤ_pos k (entry numbers b) (factor_above (size t) (basis_columns t) f is i lt) above in
      zero_times (k *ℤ entry numbers b) (row_at t i).right product (ap (λ z. (k *ℤ entry numbers b) *ℤ z) (sym (right_is i lt)) ∙ gone)

  pub driven : IsDriven t 0
  driven = record { feasible = feasible; none = no_helper_share; idle = λ i l. absurd (omega arith) }

-- ---- a helper with share 0 leaves
turned_right : (col : ℕ) (row : Equation) → row.right ≡ pos 0 → (turned_row col row).right ≡ pos 0
turned_right col row none = by_cases (is_below (get_or row.entries col (pos 0)))
  where
    by_cases : (b : Bool) → (cond b (record { weight = row.weight; right = neg_ℤ row.right; entries = map neg_ℤ row.entries }) row).right ≡ pos 0
    by_cases false = none
    by_cases true = ap neg_ℤ none

stays_not_below : (k f x y : ℤ) → pos 0 <ℤ k → pos 0 <ℤ f → k *ℤ y ≡ f *ℤ x → pos 0 ≤ℤ x → pos 0 ≤ℤ y
stays_not_below k f x (pos y) p q e h = omega (arith, ints)
stays_not_below k f x (negsuc y) p q e h =
    let up = not_below f x (omega (arith, ints)) h in
    let flip = *ℤ_pos k (pos (suc y)) p (omega (arith, ints)) in
    let neg : k *ℤ negsuc y ≡ neg_ℤ (k *ℤ pos (suc y)) = negated k y in
    absurd (omega (arith, ints))
  where
    negated : (k : ℤ) (y : ℕ) → k *ℤ negsuc y ≡ neg_ℤ (k *ℤ pos (suc y))
    negated (pos k) y = omega (arith, ints)
    negated (negsuc k) y = omega (arith, ints)

past_the_end : (xs : List ℤ) (j : ℕ) → length xs ≤ j → get_or xs j (pos 0) ≡ pos 0
past_the_end [] zero le = refl
past_the_end [] (suc j) le = refl
past_the_end (x ∷ xs) zero le = absurd (omega arith)
past_the_end (x ∷ xs) (suc j) le = past_the_end xs j (omega arith)

-- a row that stays, since it has no helper or no entry
pub driven_same : (t : Tableau) (r : ℕ) → IsTableau t → r < size t → IsDriven t r → (get_or t.basis r 0 < size t → (j : ℕ) → size t ≤ j → j < length t.columns → entry_at t r j ≡ pos 0) → IsDriven t (r + 1)
driven_same t r h below d none = record {
  feasible = d.feasible;
  none = d.none;
  idle = λ i lt small helped. by_cases i small helped (cases_lt i r) lt;
}
  where
    entries : get_or t.basis r 0 < size t → (j : ℕ) → size t ≤ j → (j < length t.columns) ⊎ (length t.columns ≤ j) → entry_at t r j ≡ pos 0
    entries helped j le (inl lt) = none helped j le lt
    entries helped j le (inr past) = past_the_end (row_at t r).entries j (let e = spelled_length (size t) r t.columns (row_at t r) (h.spelled r (omega arith)) in omega arith)

    by_cases : (i : ℕ) → i < size t → get_or t.basis i 0 < size t → (i < r) ⊎ (r ≤ i) → i < r + 1 → IsIdle t i
    by_cases i small helped (inl lt) any = d.idle i lt small helped
    by_cases i small helped (inr le) any =
        let e : r ≡ i = omega arith in
        subst (λ k. IsIdle t k) e (let there = subst (λ k. get_or t.basis k 0 < size t) (sym e) helped in record { right = d.none r below there; entries = λ j l. entries there j l (cases_lt j (length t.columns)) })

module _ (old new : Tableau) (r col : ℕ) (below : r < size old) (added : size old ≤ col) (pivot : IsPivotOf r col old new) (d : IsDriven old r) (helped : get_or old.basis r 0 < size old) where
  same_size : size new ≡ size old
  same_size = ap length pivot.basis ∙ length-set old.basis r col

  abbrev own : ℤ
  own = entry_at new r col

  turned_none : (row_at new r).right ≡ pos 0
  turned_none = ap (λ (line : Equation). line.right) pivot.turned ∙ turned_right col (row_at old r) (d.none r below helped)

  comb : (i : ℕ) → i < size old → i ≢ r → IsCombinationOf own (entry_at old i col) (row_at old i) (row_at new r) (row_at new i)
  comb i lt apart = subst (λ g. IsCombinationOf own g (row_at old i) (row_at new r) (row_at new i)) (excess_body (size old) col i (row_at old i) (omega arith)) (pivot.others i (omega arith) apart)

  right_after : (i : ℕ) (lt : i < size old) (apart : i ≢ r) → pos (comb i lt apart).factor *ℤ (row_at new i).right ≡ own *ℤ (row_at old i).right
  right_after i lt apart = (comb i lt apart).right ∙ ap (λ z. own *ℤ (row_at old i).right -ℤ entry_at old i col *ℤ z) turned_none ∙ omega (arith, ints)

  basis_there : (i : ℕ) → i ≢ r → get_or new.basis i 0 ≡ get_or old.basis i 0
  basis_there i apart = ap (λ basis. get_or basis i 0) pivot.basis ∙ get_or-set_other old.basis r i col 0 apart

  basis_here : get_or new.basis r 0 ≡ col
  basis_here = ap (λ basis. get_or basis r 0) pivot.basis ∙ get_or-set_same old.basis r col 0 below

  pub driven_after : IsDriven new (r + 1)
  driven_after = record {
    feasible = λ i lt. feasible_at i (let e = same_size in omega arith) (same_or_not i r);
    none = λ i lt there. none_at i (let e = same_size in omega arith) (same_or_not i r) there;
    idle = λ i lt small there. idle_at i (let e = same_size in omega arith) lt (same_or_not i r) there;
  }
    where
      feasible_at : (i : ℕ) → i < size old → (i ≡ r) ⊎ (i ≢ r) → pos 0 ≤ℤ (row_at new i).right
      feasible_at i lt (inl e) = subst (λ j. pos 0 ≤ℤ (row_at new j).right) (sym e) (subst (λ z. pos 0 ≤ℤ z) (sym turned_none) (omega (arith, ints)))
      feasible_at i lt (inr apart) =
          let c = comb i lt apart in
          stays_not_below (pos c.factor) own (row_at old i).right (row_at new i).right (factor_pos c.factor c.some) pivot.above (right_after i lt apart) (d.feasible i lt)

      none_at : (i : ℕ) → i < size old → (i ≡ r) ⊎ (i ≢ r) → get_or new.basis i 0 < size new → (row_at new i).right ≡ pos 0
      none_at i lt (inl e) there = ap (λ j. (row_at new j).right) e ∙ turned_none
      none_at i lt (inr apart) there =
          let c = comb i lt apart in
          let s = same_size in
          let b = basis_there i apart in
          let was = d.none i lt (omega arith) in
          zero_times (pos c.factor) (row_at new i).right (factor_pos c.factor c.some) (right_after i lt apart ∙ ap (λ z. own *ℤ z) was ∙ omega (arith, ints))

      idle_at : (i : ℕ) → i < size old → i < r + 1 → (i ≡ r) ⊎ (i ≢ r) → get_or new.basis i 0 < size new → IsIdle new i
      idle_at i lt small (inl e) there = let at = ap (λ j. get_or new.basis j 0) e ∙ basis_here in let s = same_size in absurd (omega arith)
      idle_at i lt small (inr apart) there =
          let c = comb i lt apart in
          let s = same_size in
          let b = basis_there i apart in
          let was = d.idle i (omega arith) lt (omega arith) in
          let gone = was.entries col added in
          record {
            right = none_at i lt (inr apart) there;
            entries = λ j le. zero_times (pos c.factor) (entry_at new i j) (factor_pos c.factor c.some)
                (c.entries j ∙ ap₂ (λ x g. own *ℤ x -ℤ g *ℤ entry_at new r j) (was.entries j (omega arith)) gone ∙ omega (arith, ints));
          }

pub driven_idle : (t : Tableau) → IsDriven t (size t) → AreHelpersIdle t
driven_idle t d i lt helped = d.idle i lt lt helped
