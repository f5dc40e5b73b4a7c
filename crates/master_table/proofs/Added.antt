-- A table with a further column is the table of the same basis.
use Rattle.std.proofs.Common.{◌≡◌, ◌∙◌, ℕ, zero, suc, ◌+◌, ◌-◌, ◌<◌, ◌≤◌, arith, refl, sym, ap, subst, ℤ, pos, ◌+ℤ◌, ◌*ℤ◌, unsigned_abs, neg_ℤ, List, [], ◌∷◌, ◌++◌, take, drop, drop-cons, add-one, map, length, get_or, set, Bool, true, false, cond, nat_lt, None, ◌⊎◌, inl, inr}
use Rattle.std.proofs.lemmas.Int.{ints}
use Rattle.std.proofs.lemmas.Bool.{cases_lt}
use Rattle.std.proofs.lemmas.List.{get_or_append_left, length-append, map-append, take-append-le}
use Rattle.std.proofs.Math.Seq.{get_or-append_right}
use Rattle.fleet_model.specs.Divisors.{IsGcdOf}
use Rattle.fleet_model.specs.Equations.{Column, column_at, entry, help_of, right_side, route, total_from}
use Rattle.fleet_model.specs.Basis.{IsBody, IsDetermined, IsHelperList, IsPriceList}
use Rattle.master_table.specs.Tableau.{Equation, IsRowWithin, IsSpelled, IsTableau, IsWithinCaps, Limits, Tableau, basis_columns, charge, entry_cap, multipliers, prices_of, row_at, size}
use Rattle.master_table.specs.Adding.{extended_row, extended_rows, first_past_row, new_entries, new_entry, past_row, with_column}
use Rattle.master_table.proofs.Combinations.{spelled_length}
use Rattle.master_table.proofs.Facts.{below_cap, not_past}

-- ---- sums
pub total_step : (s : ℕ → Bool) (c : ℕ) (xs : List ℤ) (acc part all : ℤ) → c < length xs → part ≡ cond (s c) (get_or xs c (pos 0)) (pos 0)
    → acc +ℤ total_from s c (drop c xs) ≡ all → (acc +ℤ part) +ℤ total_from s (c + 1) (drop (c + 1) xs) ≡ all
total_step s c xs acc part all lt is before =
    let cut = ap (total_from s c) (drop-cons xs c (pos 0) lt) in
    let next : total_from s (suc c) (drop (suc c) xs) ≡ total_from s (c + 1) (drop (c + 1) xs) = ap (λ k. total_from s k (drop k xs)) (sym (add-one c)) in
    omega (arith, ints)

-- ---- rows
pub extended_at : (n : ℕ) (b : Column) (i : ℕ) (rows : List Equation) (k : ℕ) (d : Equation) → k < length rows
    → get_or (extended_rows rows (new_entries n b i rows)) k d ≡ extended_row (get_or rows k d) (new_entry n b (i + k) (get_or rows k d))
extended_at n b i [] k d lt = absurd (omega arith)
extended_at n b i (row ∷ rows) zero d lt = let e : i ≡ i + 0 = omega arith in ap (λ j. extended_row row (new_entry n b j row)) e
extended_at n b i (row ∷ rows) (suc k) d lt =
    let e : (i + 1) + k ≡ i + suc k = omega arith in
    extended_at n b (i + 1) rows k d (omega arith) ∙ ap (λ j. extended_row (get_or rows k d) (new_entry n b j (get_or rows k d))) e

pub length_extended : (rows : List Equation) (zs : List ℤ) → length (extended_rows rows zs) ≡ length rows
length_extended [] zs = refl
length_extended (row ∷ rows) [] = refl
length_extended (row ∷ rows) (z ∷ zs) = ap suc (length_extended rows zs)

pub length_new : (n : ℕ) (b : Column) (i : ℕ) (rows : List Equation) → length (new_entries n b i rows) ≡ length rows
length_new n b i [] = refl
length_new n b i (row ∷ rows) = ap suc (length_new n b (i + 1) rows)

same_columns : (columns : List Column) (b : Column) (basis : List ℕ) → ((i : ℕ) → i < length basis → get_or basis i 0 < length columns) → map (column_at (columns ++ b ∷ [])) basis ≡ map (column_at columns) basis
same_columns columns b [] h = refl
same_columns columns b (j ∷ js) h =
    let here = get_or_append_left columns (b ∷ []) (route [] 0) j (h 0 (omega arith)) in
    let rest = same_columns columns b js (λ i lt. h (suc i) (omega arith)) in
    cc

within_new : (caps : Limits) (n : ℕ) (b : Column) (i : ℕ) (rows : List Equation) (k : ℕ) (d : Equation) → past_row caps n i (new_entries n b i rows) ≡ None → k < length rows
    → unsigned_abs (new_entry n b (i + k) (get_or rows k d)) ≤ entry_cap caps n (i + k)
within_new caps n b i [] k d e lt = absurd (omega arith)
within_new caps n b i (row ∷ rows) zero d e lt =
    let s : i ≡ i + 0 = omega arith in
    let first = not_past (nat_lt (entry_cap caps n i) (unsigned_abs (new_entry n b i row))) i (past_row caps n (i + 1) (new_entries n b (i + 1) rows)) e in
    subst (λ j. unsigned_abs (new_entry n b j row) ≤ entry_cap caps n j) s (below_cap (entry_cap caps n i) (unsigned_abs (new_entry n b i row)) first.0)
within_new caps n b i (row ∷ rows) (suc k) d e lt =
    let s : (i + 1) + k ≡ i + suc k = omega arith in
    let first = not_past (nat_lt (entry_cap caps n i) (unsigned_abs (new_entry n b i row))) i (past_row caps n (i + 1) (new_entries n b (i + 1) rows)) e in
    subst (λ j. unsigned_abs (new_entry n b j (get_or rows k d)) ≤ entry_cap caps n j) s (within_new caps n b (i + 1) rows k d first.1 (omega arith))

module _ (t : Tableau) (h : IsTableau t) (b : Column) (plain : help_of b ≡ 0) where
  abbrev n : ℕ
  n = size t

  abbrev after : Tableau
  after = with_column b t

  abbrev z : ℕ → ℤ
  z i = new_entry n b i (row_at t i)

  row_is : (i : ℕ) → i < n + 2 → row_at after i ≡ extended_row (row_at t i) (z i)
  row_is i lt = extended_at n b 0 t.rows i (record { weight = pos 0; right = pos 0; entries = [] }) (omega (arith, h.high)) ∙ (let e : 0 + i ≡ i = omega arith in ap (λ j. extended_row (row_at t i) (new_entry n b j (row_at t i))) e)

  long_enough : (i : ℕ) → i < n + 2 → n ≤ length (row_at t i).entries
  long_enough i lt = let e = spelled_length n i t.columns (row_at t i) (h.spelled i lt) in let m = h.columns.enough in omega arith

  parts_are : (i : ℕ) → i < n + 2 → multipliers n (extended_row (row_at t i) (z i)) ≡ multipliers n (row_at t i)
  parts_are i lt = take-append-le n (row_at t i).entries (z i ∷ []) (long_enough i lt)

  parts_same : (i : ℕ) → i < n + 2 → multipliers n (row_at after i) ≡ multipliers n (row_at t i)
  parts_same i lt = ap (multipliers n) (row_is i lt) ∙ parts_are i lt

  weight_same : (i : ℕ) → i < n + 2 → (row_at after i).weight ≡ (row_at t i).weight
  weight_same i lt = ap (λ (row : Equation). row.weight) (row_is i lt)

  basis_same : basis_columns after ≡ basis_columns t
  basis_same = same_columns t.columns b t.basis h.placed

  spelled_row : (i : ℕ) → i < n + 2 → IsSpelled n i (t.columns ++ b ∷ []) (extended_row (row_at t i) (z i))
  spelled_row i lt =
      let row = row_at t i in
      record {
        entries =
            ap (λ xs. xs ++ z i ∷ []) (h.spelled i lt).entries
            ∙ sym (map-append (λ column. row.weight *ℤ charge n i column +ℤ entry (multipliers n row) column) t.columns (b ∷ []))
            ∙ ap (λ ms. map (λ column. row.weight *ℤ charge n i column +ℤ entry ms column) (t.columns ++ b ∷ [])) (sym (parts_are i lt));
        right = (h.spelled i lt).right ∙ ap right_side (sym (parts_are i lt));
      }

  none_past : (k : ℕ) → help_of (get_or (b ∷ []) k (route [] 0)) ≡ 0
  none_past zero = plain
  none_past (suc zero) = refl
  none_past (suc (suc k)) = refl

  routes_after : (j : ℕ) → n ≤ j → (j < length t.columns) ⊎ (length t.columns ≤ j) → help_of (column_at (t.columns ++ b ∷ []) j) ≡ 0
  routes_after j le (inl lt) = ap help_of (get_or_append_left t.columns (b ∷ []) (route [] 0) j lt) ∙ h.columns.routes j le
  routes_after j le (inr past) = ap help_of (get_or-append_right t.columns (b ∷ []) j (route [] 0) past) ∙ none_past (j - length t.columns)

  longer : length (t.columns ++ b ∷ []) ≡ length t.columns + 1
  longer = length-append t.columns (b ∷ [])

  pub added_tableau : IsTableau (with_column b t)
  added_tableau = record {
    high = length_extended t.rows (new_entries n b 0 t.rows) ∙ h.high;
    count = refl;
    columns = record {
      enough = let l = longer in let m = h.columns.enough in omega arith;
      helped = λ c lt. get_or_append_left t.columns (b ∷ []) (route [] 0) c (let m = h.columns.enough in omega arith) ∙ h.columns.helped c lt;
      routes = λ j le. routes_after j le (cases_lt j (length t.columns));
    };
    placed = λ i lt. let l = longer in let m = h.placed i lt in omega arith;
    spelled = λ i lt. subst (IsSpelled n i (t.columns ++ b ∷ [])) (sym (row_is i lt)) (spelled_row i lt);
    weightless = λ i lt. weight_same i (omega arith) ∙ h.weightless i lt;
    bodies = λ i lt.
        subst (λ basis. IsBody n basis i (multipliers n (row_at after i))) (sym basis_same)
        (subst (λ ms. IsBody n (basis_columns t) i ms) (sym (parts_same i (omega arith))) (h.bodies i lt));
    determined = subst (λ basis. IsDetermined n basis) (sym basis_same) h.determined;
    price_list =
        subst (λ basis. IsPriceList n basis (row_at after n).weight (prices_of n (row_at after n))) (sym basis_same)
        (subst (λ (row : Equation). IsPriceList n (basis_columns t) row.weight (prices_of n row)) (sym (row_is n (omega arith)))
        (subst (λ ms. IsPriceList n (basis_columns t) (row_at t n).weight (map neg_ℤ ms)) (sym (parts_are n (omega arith))) h.price_list));
    prices_reduced = subst (λ (row : Equation). IsGcdOf (row.weight ∷ multipliers n row) 1) (sym (row_is n (omega arith))) (subst (λ ms. IsGcdOf ((row_at t n).weight ∷ ms) 1) (sym (parts_are n (omega arith))) h.prices_reduced);
    helper_list =
        subst (λ basis. IsHelperList n basis (row_at after (n + 1)).weight (multipliers n (row_at after (n + 1)))) (sym basis_same)
        (subst (λ (row : Equation). IsHelperList n (basis_columns t) row.weight (multipliers n row)) (sym (row_is (n + 1) (omega arith)))
        (subst (λ ms. IsHelperList n (basis_columns t) (row_at t (n + 1)).weight ms) (sym (parts_are (n + 1) (omega arith))) h.helper_list));
    numbers_reduced = subst (λ (row : Equation). IsGcdOf (row.weight ∷ multipliers n row) 1) (sym (row_is (n + 1) (omega arith))) (subst (λ ms. IsGcdOf ((row_at t (n + 1)).weight ∷ ms) 1) (sym (parts_are (n + 1) (omega arith))) h.numbers_reduced);
  }

  -- ---- caps
  module _ (w : IsWithinCaps t) (none : first_past_row b t ≡ None) where
    entries_within : (i : ℕ) → i < n + 2 → (k : ℕ) (d : ℤ) → k < length ((row_at t i).entries ++ z i ∷ []) → (k < length (row_at t i).entries) ⊎ (length (row_at t i).entries ≤ k) → unsigned_abs (get_or ((row_at t i).entries ++ z i ∷ []) k d) ≤ entry_cap t.caps n i
    entries_within i lt k d inside (inl l) = subst (λ x. unsigned_abs x ≤ entry_cap t.caps n i) (sym (get_or_append_left (row_at t i).entries (z i ∷ []) d k l)) ((w i lt).entries k d l)
    entries_within i lt k d inside (inr l) =
        let all = length-append (row_at t i).entries (z i ∷ []) in
        let zero_left : k - length (row_at t i).entries ≡ 0 = omega arith in
        let is : get_or ((row_at t i).entries ++ z i ∷ []) k d ≡ z i = get_or-append_right (row_at t i).entries (z i ∷ []) k d l ∙ ap (λ j. get_or (z i ∷ []) j d) zero_left in
        let place : 0 + i ≡ i = omega arith in
        let small = within_new t.caps n b 0 t.rows i (record { weight = pos 0; right = pos 0; entries = [] }) none (omega (arith, h.high)) in
        subst (λ x. unsigned_abs x ≤ entry_cap t.caps n i) (sym is) (subst (λ j. unsigned_abs (new_entry n b j (row_at t i)) ≤ entry_cap t.caps n j) place small)

    pub added_within : IsWithinCaps (with_column b t)
    added_within i lt = subst (IsRowWithin t.caps n i) (sym (row_is i lt)) (record {
      entries = λ k d l. entries_within i lt k d l (cases_lt k (length (row_at t i).entries));
      right = (w i lt).right;
      weight = (w i lt).weight;
    })

pub cond_small : (t : Bool) (x : ℤ) (m : ℕ) → unsigned_abs x ≤ m → unsigned_abs (cond t x (pos 0)) ≤ m
cond_small true x m h = h
cond_small false x m h = omega arith

-- ---- the code's rows, changed one by one
pub same_map : {A B : Type 0} (f : A → B) (xs : List A) (i : ℕ) (y d : A) → i < length xs → f y ≡ f (get_or xs i d) → map f (set xs i y) ≡ map f xs
same_map f [] i y d lt e = refl
same_map f (x ∷ xs) zero y d lt e = ap (λ z. z ∷ map f xs) e
same_map f (x ∷ xs) (suc i) y d lt e = ap (λ zs. f x ∷ zs) (same_map f xs i y d (omega arith) e)

-- one more of the rows has its entry
pub extended_more : {A : Type 0} (f : A → Equation) (i : ℕ) (rows : List A) (zs : List ℤ) (y d : A) → i < length rows → i < length zs → f y ≡ extended_row (f (get_or rows i d)) (get_or zs i (pos 0))
    → map f (take (suc i) (set rows i y)) ++ extended_rows (map f (drop (suc i) (set rows i y))) (drop (suc i) zs) ≡ map f (take i rows) ++ extended_rows (map f (drop i rows)) (drop i zs)
extended_more f i [] zs y d lt lz e = absurd (omega arith)
extended_more f i (r ∷ rs) [] y d lt lz e = absurd (omega arith)
extended_more f zero (r ∷ rs) (z ∷ zs) y d lt lz e = ap (λ w. w ∷ extended_rows (map f rs) zs) e
extended_more f (suc i) (r ∷ rs) (z ∷ zs) y d lt lz e = ap (λ ws. f r ∷ ws) (extended_more f i rs zs y d (omega arith) (omega arith) e)
