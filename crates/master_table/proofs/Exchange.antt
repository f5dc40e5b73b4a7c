-- From the start of m entries to that of one more.
use Rattle.std.proofs.Common.{◌≡◌, ◌≢◌, ◌∙◌, ℕ, zero, suc, ◌+◌, ◌<◌, ◌≤◌, arith, refl, sym, ap, subst, ℤ, pos, neg_ℤ, ◌*ℤ◌, Bool, true, false, cond, nat_eq, eq-eqb, ne_eqb, List, [], ◌∷◌, ◌++◌, map, length, length-set, length-append, get_or, set, take, get_or-set_same, get_or-set_other, Some, ◌⊎◌, inl, inr, ◌||◌}
use Rattle.std.proofs.lemmas.Int.{ints}
use Rattle.std.proofs.lemmas.Bool.{cases_eq, cases_lt, both_ways, or_parts}
use Rattle.std.proofs.lemmas.List.{get_or_append_left, get_or_at, map-append, set-get_or}
use Rattle.customer_sets.specs.CustSet.{has}
use Rattle.fleet_model.proofs.Signs.{factor_pos, zero_times}
use Rattle.master_table.specs.Tableau.{Equation, IsTableau, Tableau, entry_at, row_at, size}
use Rattle.master_table.specs.Pivoting.{IsPivotOf, is_below, pivoted, turned_row}
use Rattle.master_table.proofs.Tableaus.{pivot_of, pivoted_tableau, zero_or_not}
use Rattle.master_table.proofs.Bases.{excess_body}
use Rattle.master_table.specs.Leaving.{IsLastToGo, IsStart, brought, left_rows}
use Rattle.master_table.proofs.FollowingHelpers.{at_has, has_last, left_less, once_last}

-- ---- lists
pub take_last : {A : Type 0} (xs : List A) (m : ℕ) (d : A) → m < length xs → take (suc m) xs ≡ take m xs ++ get_or xs m d ∷ []
take_last [] m d lt = absurd (omega arith)
take_last (x ∷ xs) zero d lt = refl
take_last (x ∷ xs) (suc m) d lt = ap (λ ys. x ∷ ys) (take_last xs m d (omega arith))

pub map_at : {A : Type 0} (f g : ℕ → A) (xs : List ℕ) → ((j : ℕ) → j < length xs → f (get_or xs j 0) ≡ g (get_or xs j 0)) → map f xs ≡ map g xs
map_at f g [] h = refl
map_at f g (x ∷ xs) h =
    let here = h 0 (omega arith) in
    let rest = map_at f g xs (λ j lt. h (suc j) (omega arith)) in
    cc

none_negated : (xs : List ℤ) (x : ℕ) → get_or xs x (pos 0) ≡ pos 0 → get_or (map neg_ℤ xs) x (pos 0) ≡ pos 0
none_negated [] zero e = refl
none_negated [] (suc x) e = refl
none_negated (z ∷ zs) zero e = omega (arith, ints)
none_negated (z ∷ zs) (suc x) e = none_negated zs x e

none_turned : (col x : ℕ) (row : Equation) → get_or row.entries x (pos 0) ≡ pos 0 → get_or (turned_row col row).entries x (pos 0) ≡ pos 0
none_turned col x row e = by_cases (is_below (get_or row.entries col (pos 0)))
  where
    by_cases : (b : Bool) → get_or (cond b (record { weight = row.weight; right = neg_ℤ row.right; entries = map neg_ℤ row.entries }) row).entries x (pos 0) ≡ pos 0
    by_cases true = none_negated row.entries x e
    by_cases false = e

-- ---- a pivot leaves the earlier helpers out of the rows that are left
module _ (t : Tableau) (h : IsTableau t) (r col : ℕ) (below : r < size t) (inside : col < length t.columns) (some : entry_at t r col ≢ pos 0) where
  abbrev new : Tableau
  new = pivoted r col t

  pivot : IsPivotOf r col t (pivoted r col t)
  pivot = pivot_of t h r col below inside some

  none_after : (i x : ℕ) → i < size t → i ≢ r → entry_at t i x ≡ pos 0 → (entry_at t i col ≡ pos 0) ⊎ (entry_at t r x ≡ pos 0) → entry_at (pivoted r col t) i x ≡ pos 0
  none_after i x lt apart none either =
      let p = pivot in
      let c = p.others i (omega arith) apart in
      let f = entry_at (pivoted r col t) r col in
      let g = ap (λ z. z *ℤ entry_at (pivoted r col t) r x) (excess_body (size t) col i (row_at t i) (omega arith)) in
      let at = c.entries x in
      let first : f *ℤ entry_at t i x ≡ pos 0 = ap (λ z. f *ℤ z) none ∙ omega (arith, ints) in
      let second = gone either in
      zero_times (pos c.factor) (entry_at (pivoted r col t) i x) (factor_pos c.factor c.some) (omega (arith, ints))
    where
      gone : (entry_at t i col ≡ pos 0) ⊎ (entry_at t r x ≡ pos 0) → entry_at t i col *ℤ entry_at (pivoted r col t) r x ≡ pos 0
      gone (inl e) = ap (λ z. z *ℤ entry_at (pivoted r col t) r x) e ∙ omega (arith, ints)
      gone (inr e) =
          let turned : entry_at (pivoted r col t) r x ≡ pos 0 = ap (λ (line : Equation). get_or line.entries x (pos 0)) pivot.turned ∙ none_turned col x (row_at t r) e in
          ap (λ z. entry_at t i col *ℤ z) turned ∙ omega (arith, ints)

-- ---- the table with one more entry
pub record IsNext (t : Tableau) (r col : ℕ) (new : Tableau) : Type 0 where
  pub tableau : IsTableau new
  pub basis : new.basis ≡ set t.basis r col
  pub columns : new.columns ≡ t.columns
  pub caps : new.caps ≡ t.caps
  pub none : (i x : ℕ) → i < size t → i ≢ r → entry_at t i x ≡ pos 0 → (entry_at t i col ≡ pos 0) ⊎ (entry_at t r x ≡ pos 0) → entry_at new i x ≡ pos 0

pub next_is : (t : Tableau) → IsTableau t → (r col : ℕ) → r < size t → col < length t.columns → entry_at t r col ≢ pos 0 → IsNext t r col (brought r col t)
next_is t h r col below inside some = by_cases (cases_eq (get_or t.basis r 0) col)
  where
    by_cases : (get_or t.basis r 0 ≡ col) ⊎ (get_or t.basis r 0 ≢ col) → IsNext t r col (brought r col t)
    by_cases (inl e) =
        let is : brought r col t ≡ t = ap (λ b. cond b t (pivoted r col t)) (eq-eqb (get_or t.basis r 0) col e) in
        subst (λ new. IsNext t r col new) (sym is) (record {
          tableau = h;
          basis = sym (set-get_or t.basis r 0) ∙ ap (λ j. set t.basis r j) e;
          columns = refl;
          caps = refl;
          none = λ i x lt apart none either. none;
        })
    by_cases (inr other) =
        let is : brought r col t ≡ pivoted r col t = ap (λ b. cond b t (pivoted r col t)) (ne_eqb (get_or t.basis r 0) col other) in
        subst (λ new. IsNext t r col new) (sym is) (record {
          tableau = pivoted_tableau t h r col below inside some;
          basis = refl;
          columns = refl;
          caps = refl;
          none = λ i x lt apart none either. none_after t h r col below inside some i x lt apart none either;
        })

module _ (t new : Tableau) (entries : List ℕ) (m : ℕ) (taken after : List ℕ) (s : IsStart t entries m taken) (r col : ℕ) (more : m < length entries) (col_is : get_or entries m 0 ≡ col)
    (last : IsLastToGo t taken col (size t) (Some r)) (next : IsNext t r col new) (adds : (x : ℕ) → has after x ≡ (nat_eq r x || has taken x)) where
  same_size : size new ≡ size t
  same_size = ap length next.basis ∙ length-set t.basis r col

  free : has taken r ≡ false
  free = last.1.0

  not_in_order : has s.order r ≡ false
  not_in_order = sym (s.same r) ∙ free

  not_r : (j : ℕ) → j < length s.order → get_or s.order j 0 ≢ r
  not_r j lt e = both_ways (has s.order r) not_in_order (ap (has s.order) (sym e) ∙ at_has s.order j lt)

  apart_and_left : (i : ℕ) → has after i ≡ false → (i ≢ r) × (has taken i ≡ false)
  apart_and_left i e =
      let parts = or_parts (nat_eq r i) (has taken i) (sym (adds i) ∙ e) in
      (λ same. both_ways (nat_eq r i) parts.0 (eq-eqb r i (sym same)), parts.1)

  held_next : map (λ i. get_or new.basis i 0) (s.order ++ r ∷ []) ≡ take (suc m) entries
  held_next =
      let old : map (λ i. get_or new.basis i 0) s.order ≡ map (λ i. get_or t.basis i 0) s.order =
      map_at (λ i. get_or new.basis i 0) (λ i. get_or t.basis i 0) s.order (λ j lt. ap (λ xs. get_or xs (get_or s.order j 0) 0) next.basis ∙ get_or-set_other t.basis r (get_or s.order j 0) col 0 (not_r j lt)) in
      let here : get_or new.basis r 0 ≡ get_or entries m 0 = ap (λ xs. get_or xs r 0) next.basis ∙ get_or-set_same t.basis r col 0 last.0 ∙ sym col_is in
      map-append (λ i. get_or new.basis i 0) s.order (r ∷ []) ∙ ap (λ xs. xs ++ get_or new.basis r 0 ∷ []) (old ∙ s.held) ∙ ap (λ x. take m entries ++ x ∷ []) here ∙ sym (take_last entries m 0 more)

  below_next : (j : ℕ) → j < length (s.order ++ r ∷ []) → (j < length s.order) ⊎ (length s.order ≤ j) → get_or (s.order ++ r ∷ []) j 0 < size new
  below_next j lt (inl l) = subst (λ k. k < size new) (sym (get_or_append_left s.order (r ∷ []) 0 j l)) (let b = s.below j l in let e = same_size in omega arith)
  below_next j lt (inr le) =
      let a = length-append s.order (r ∷ []) in
      let e : length s.order ≡ j = omega arith in
      subst (λ k. k < size new) (sym (get_or_at s.order r [] 0 j e)) (let b = last.0 in let z = same_size in omega arith)

  later_next : (i x : ℕ) → i < size new → has after i ≡ false → x < i → entry_at new i x ≡ pos 0
  later_next i x lt none before =
      let f = apart_and_left i none in
      let e = same_size in
      let l : i < size t = omega arith in
      next.none i x l f.0 (s.later i x l f.1 before) (by_cases i x l f.0 f.1 before (cases_lt i r))
    where
      by_cases : (i x : ℕ) → i < size t → i ≢ r → has taken i ≡ false → x < i → (i < r) ⊎ (r ≤ i) → (entry_at t i col ≡ pos 0) ⊎ (entry_at t r x ≡ pos 0)
      by_cases i x l apart left before (inl lower) = inr (s.later r x last.0 free (omega arith))
      by_cases i x l apart left before (inr upper) = inl (nothing (zero_or_not (entry_at t i col)))
        where
          nothing : (entry_at t i col ≡ pos 0) ⊎ (entry_at t i col ≢ pos 0) → entry_at t i col ≡ pos 0
          nothing (inl e) = e
          nothing (inr has_some) = absurd (last.2 i (omega (arith, upper, apart)) l (left, has_some))

  count_next : length (s.order ++ r ∷ []) + length (left_rows after (size new) 0) ≡ size new
  count_next =
      let a = length-append s.order (r ∷ []) in
      let less = left_less taken after r (size t) 0 (omega arith) (let b = last.0 in omega arith) free (adds r ∙ ap (λ b. b || has taken r) (eq-eqb r r refl))
      (λ x apart. adds x ∙ ap (λ b. b || has taken x) (ne_eqb r x (λ e. apart (sym e)))) in
      let c = s.count in
      let e = same_size in
      let l = ap (λ k. length (left_rows after k 0)) e in
      omega arith

  pub next_start : IsStart new entries (suc m) after
  next_start = record {
    tableau = next.tableau;
    order = s.order ++ r ∷ [];
    held = held_next;
    below = λ j lt. below_next j lt (cases_lt j (length s.order));
    once = once_last s.order r s.once not_in_order;
    same = λ i. adds i ∙ ap (λ b. nat_eq r i || b) (s.same i) ∙ sym (has_last s.order r i);
    count = count_next;
    own = λ i lt none.
        let f = apart_and_left i none in
        ap (λ xs. get_or xs i 0) next.basis ∙ get_or-set_other t.basis r i col 0 f.0 ∙ s.own i (let e = same_size in omega arith) f.1;
    later = later_next;
  }
