-- The table of the helpers' basis: adding a column is never wide, and it is the start of no entry.
use Rattle.std.proofs.Common.{◌≡◌, ◌≢◌, ◌∙◌, ℕ, zero, suc, ◌+◌, ◌<◌, ◌≤◌, arith, refl, sym, ap, subst, le_trans, ℤ, pos, ◌+ℤ◌, ◌*ℤ◌, unsigned_abs, Bool, true, false, cond, nat_eq, nat_lt, eq-eqb, ne_eqb, lt-ltb, le-ltb, List, [], ◌∷◌, ◌++◌, map, length, get_or, get_or-take, append_assoc, append-nil, length-append, None, Some, ◌⊎◌, inl, inr}
use Rattle.std.specs.List.{range_with_len}
use Rattle.std.proofs.lemmas.Int.{ints}
use Rattle.std.proofs.lemmas.Bool.{cases_eq, cases_lt}
use Rattle.std.proofs.lemmas.List.{map-append, take-append-le}
use Rattle.std.proofs.lemmas.List.FromFn.{get_or-map-range_with_len, get_or-range_with_len, length-range_with_len, take-map-range_with_len}
use Rattle.fleet_model.specs.Equations.{Column, cost_of, entry, helper, helpers, serves, total_from}
use Rattle.master_table.specs.Adding.{extended_row, first_past_row, new_entries, new_entry, past_row, with_column}
use Rattle.master_table.specs.Fresh.{fresh, fresh_entry, fresh_row}
use Rattle.master_table.specs.Tableau.{Equation, IsTableau, Limits, Tableau, charge, entry_at, entry_cap, multipliers, row_at, size}
use Rattle.master_table.proofs.Added.{cond_small, extended_at}
use Rattle.master_table.proofs.Combinations.{length_map, spelled_length}
use Rattle.master_table.proofs.FreshFacts.{fresh_tableau}
use Rattle.master_table.specs.Leaving.{IsHelperTable, IsStart}
use Rattle.master_table.specs.Listed.{column_of, route_columns}
use Rattle.master_table.specs.declared.listed.ListedRoute.{ListedRoute}
use Rattle.master_table.proofs.FollowingHelpers.{left_all}

-- ---- sums of sizes
sizes : List ℤ → ℕ
sizes [] = 0
sizes (z ∷ zs) = unsigned_abs z + sizes zs

total_small : (s : ℕ → Bool) (c : ℕ) (zs : List ℤ) → unsigned_abs (total_from s c zs) ≤ sizes zs
unfolding sizes
total_small s c [] = omega arith
total_small s c (z ∷ zs) =
    let here = cond_small (s c) z (unsigned_abs z) (omega arith) in
    let rest = total_small s (suc c) zs in
    omega (arith, ints)

sizes_none : (f : ℕ → ℤ) (a k : ℕ) → ((c : ℕ) → a ≤ c → f c ≡ pos 0) → sizes (map f (range_with_len a k)) ≡ 0
unfolding sizes
sizes_none f a zero h = refl
sizes_none f a (suc k) h = let here = h a (omega arith) in let rest = sizes_none f (a + 1) k (λ c l. h c (omega arith)) in omega (arith, ints)

sizes_one : (f : ℕ → ℤ) (i a k : ℕ) → ((c : ℕ) → c ≢ i → f c ≡ pos 0) → unsigned_abs (f i) ≤ 1 → sizes (map f (range_with_len a k)) ≤ 1
unfolding sizes
sizes_one f i a zero h one = omega arith
sizes_one f i a (suc k) h one = by_cases (cases_eq a i) (sizes_one f i (a + 1) k h one)
  where
    by_cases : (a ≡ i) ⊎ (a ≢ i) → sizes (map f (range_with_len (a + 1) k)) ≤ 1 → unsigned_abs (f a) + sizes (map f (range_with_len (a + 1) k)) ≤ 1
    by_cases (inl e) later =
        let rest = sizes_none f (a + 1) k (λ c l. h c (λ s. omega (arith, s, e, l))) in
        let here = ap (λ j. unsigned_abs (f j)) e in
        omega (arith, ints)
    by_cases (inr other) later = let here = h a other in omega (arith, ints)

sizes_all : (f : ℕ → ℤ) (a k : ℕ) → ((c : ℕ) → unsigned_abs (f c) ≤ 1) → sizes (map f (range_with_len a k)) ≤ k
unfolding sizes
sizes_all f a zero h = omega arith
sizes_all f a (suc k) h = let here = h a in let rest = sizes_all f (a + 1) k h in omega (arith, ints)

-- ---- the numbers of the rows
own_row : (n i c : ℕ) → i < n → c ≢ i → fresh_entry n i c ≡ pos 0
own_row n i c lt apart =
    ap (λ b. cond b (cond (nat_eq c i) (pos 1) (pos 0)) (cond (nat_eq i n) (pos 0) (pos 1))) (lt-ltb i n lt) ∙ ap (λ b. cond b (pos 1) (pos 0)) (ne_eqb c i apart)

cost_row : (n c : ℕ) → fresh_entry n n c ≡ pos 0
cost_row n c =
    ap (λ b. cond b (cond (nat_eq c n) (pos 1) (pos 0)) (cond (nat_eq n n) (pos 0) (pos 1))) (le-ltb n n (omega arith)) ∙ ap (λ b. cond b (pos 0) (pos 1)) (eq-eqb n n refl)

small_entry : (n i c : ℕ) → unsigned_abs (fresh_entry n i c) ≤ 1
small_entry n i c = by_cases (nat_lt i n) (nat_eq c i) (nat_eq i n)
  where
    by_cases : (a b d : Bool) → unsigned_abs (cond a (cond b (pos 1) (pos 0)) (cond d (pos 0) (pos 1))) ≤ 1
    by_cases true true d = omega arith
    by_cases true false d = omega arith
    by_cases false b true = omega arith
    by_cases false b false = omega arith

-- ---- the entries of a further column
module _ (n : ℕ) (caps : Limits) (b : Column) (body : 1 ≤ caps.body) (room : n ≤ caps.cost) (cost : cost_of b ≤ caps.cost) where
  abbrev parts_of : ℕ → List ℤ
  parts_of i = map (fresh_entry n i) (range_with_len 0 n)

  entry_small : (i m : ℕ) → sizes (map (fresh_entry n i) (range_with_len 0 n)) ≤ m → unsigned_abs (entry (map (fresh_entry n i) (range_with_len 0 n)) b) ≤ m
  entry_small i m le = le_trans (total_small (serves b) 0 (map (fresh_entry n i) (range_with_len 0 n))) le

  fresh_small : (i : ℕ) → i < n + 2 → (i < n) ⊎ (n ≤ i) → (i ≡ n) ⊎ (i ≢ n) → unsigned_abs ((fresh_row n i).weight *ℤ charge n i b +ℤ entry (map (fresh_entry n i) (range_with_len 0 n)) b) ≤ entry_cap caps n i
  fresh_small i lt (inl l) other =
      let small = entry_small i 1 (sizes_one (fresh_entry n i) i 0 n (λ c apart. own_row n i c l apart) (small_entry n i i)) in
      let none : (fresh_row n i).weight *ℤ charge n i b ≡ pos 0 = ap (λ u. cond u (pos 0) (pos 1) *ℤ charge n i b) (lt-ltb i n l) ∙ omega (arith, ints) in
      let cap : entry_cap caps n i ≡ caps.body = ap (λ u. cond u caps.body caps.cost) (lt-ltb i n l) in
      omega (arith, ints)
  fresh_small i lt (inr l) (inl e) = subst (λ j. unsigned_abs ((fresh_row n j).weight *ℤ charge n j b +ℤ entry (map (fresh_entry n j) (range_with_len 0 n)) b) ≤ entry_cap caps n j) (sym e) at_cost
    where
      at_cost : unsigned_abs ((fresh_row n n).weight *ℤ charge n n b +ℤ entry (map (fresh_entry n n) (range_with_len 0 n)) b) ≤ entry_cap caps n n
      at_cost =
          let no_less = le-ltb n n (omega arith) in
          let small = entry_small n 0 (let z = sizes_none (fresh_entry n n) 0 n (λ c l. cost_row n c) in omega arith) in
          let one : (fresh_row n n).weight *ℤ charge n n b ≡ pos 1 *ℤ charge n n b = ap (λ u. cond u (pos 0) (pos 1) *ℤ charge n n b) no_less in
          let paid : charge n n b ≡ pos (cost_of b) = ap (λ u. cond u (pos 0) (pos (cost_of b))) no_less in
          let cap : entry_cap caps n n ≡ caps.cost = ap (λ u. cond u caps.body caps.cost) no_less in
          omega (arith, ints)
  fresh_small i lt (inr l) (inr other) =
      let small = entry_small i n (sizes_all (fresh_entry n i) 0 n (λ c. small_entry n i c)) in
      let free : charge n i b ≡ pos 0 = ap (λ u. cond u (pos 0) (pos (cost_of b))) (lt-ltb n i (omega arith)) in
      let none : (fresh_row n i).weight *ℤ charge n i b ≡ pos 0 = ap (λ z. (fresh_row n i).weight *ℤ z) free ∙ omega (arith, ints) in
      let cap : entry_cap caps n i ≡ caps.cost = ap (λ u. cond u caps.body caps.cost) (le-ltb i n l) in
      omega (arith, ints)

none_past : (caps : Limits) (n : ℕ) (b : Column) (i : ℕ) (rows : List Equation) → ((k : ℕ) (d : Equation) → k < length rows → unsigned_abs (new_entry n b (i + k) (get_or rows k d)) ≤ entry_cap caps n (i + k)) → past_row caps n i (new_entries n b i rows) ≡ None
none_past caps n b i [] h = refl
none_past caps n b i (row ∷ rows) h =
    let s : i + 0 ≡ i = omega arith in
    let small = subst (λ j. unsigned_abs (new_entry n b j row) ≤ entry_cap caps n j) s (h 0 row (omega arith)) in
    let rest = none_past caps n b (i + 1) rows (λ k d lt. let e : i + suc k ≡ (i + 1) + k = omega arith in subst (λ j. unsigned_abs (new_entry n b j (get_or rows k d)) ≤ entry_cap caps n j) e (h (suc k) d (omega arith))) in
    ap (λ u. cond u (Some i) (past_row caps n (i + 1) (new_entries n b (i + 1) rows))) (le-ltb (entry_cap caps n i) (unsigned_abs (new_entry n b i row)) small) ∙ rest

-- ---- the table
module _ (n : ℕ) (caps : Limits) (routes : List ListedRoute) (t : Tableau) (h : IsHelperTable n caps routes t) where
  pub size_of : size t ≡ n
  size_of = ap length h.basis ∙ length-range_with_len 0 n

  pub count_columns : length t.columns ≡ n + length routes
  count_columns =
      ap length h.columns ∙ length-append (helpers n) (route_columns routes)
      ∙ (let a = length_map helper (range_with_len 0 n) in let b = length-range_with_len 0 n in let d = length_map column_of routes in omega arith)

  high : length t.rows ≡ n + 2
  high = let e = h.tableau.high in let s = size_of in omega arith

  pub never_wide : (b : Column) → 1 ≤ caps.body → n ≤ caps.cost → cost_of b ≤ caps.cost → first_past_row b t ≡ None
  never_wide b body room cost =
      ap (λ k. past_row t.caps k 0 (new_entries k b 0 t.rows)) size_of ∙ ap (λ c. past_row c n 0 (new_entries n b 0 t.rows)) h.limits
      ∙ none_past caps n b 0 t.rows (λ k d lt.
      let z : k ≡ 0 + k = omega arith in
      let inside : k < n + 2 = (let e = high in omega arith) in
      subst (λ j. unsigned_abs (new_entry n b j (get_or t.rows k d)) ≤ entry_cap caps n j) z (at k d lt inside))
    where
      at : (k : ℕ) (d : Equation) → k < length t.rows → k < n + 2 → unsigned_abs (new_entry n b k (get_or t.rows k d)) ≤ entry_cap caps n k
      at k d lt inside =
          let same = get_or_any t.rows k d (record { weight = pos 0; right = pos 0; entries = [] }) lt in
          let small = fresh_small n caps b body room cost k inside (cases_lt k n) (cases_eq k n) in
          subst (λ row. unsigned_abs (new_entry n b k row) ≤ entry_cap caps n k) (sym same)
          (subst (λ w. unsigned_abs (w *ℤ charge n k b +ℤ entry (multipliers n (row_at t k)) b) ≤ entry_cap caps n k) (sym (h.weights k inside))
          (subst (λ ms. unsigned_abs ((fresh_row n k).weight *ℤ charge n k b +ℤ entry ms b) ≤ entry_cap caps n k) (sym (h.parts k inside)) small))
        where
          get_or_any : (rows : List Equation) (k : ℕ) (d e : Equation) → k < length rows → get_or rows k d ≡ get_or rows k e
          get_or_any [] k d e lt = absurd (omega arith)
          get_or_any (row ∷ rows) zero d e lt = refl
          get_or_any (row ∷ rows) (suc k) d e lt = get_or_any rows k d e (omega arith)

  pub with_route : (r : ListedRoute) → IsTableau (with_column (column_of r) t) → IsHelperTable n caps (routes ++ r ∷ []) (with_column (column_of r) t)
  with_route r tableau = record {
    tableau = tableau;
    limits = h.limits;
    basis = h.basis;
    columns = ap (λ xs. xs ++ column_of r ∷ []) h.columns ∙ append_assoc (helpers n) (route_columns routes) (column_of r ∷ []) ∙ ap (λ xs. helpers n ++ xs) (sym (map-append column_of routes (r ∷ [])));
    weights = λ i lt. ap (λ (row : Equation). row.weight) (row_is i lt) ∙ h.weights i lt;
    parts = λ i lt. ap (multipliers n) (row_is i lt) ∙ take-append-le n (row_at t i).entries (new_entry (size t) (column_of r) (0 + i) (row_at t i) ∷ []) (long i lt) ∙ h.parts i lt;
  }
    where
      row_is : (i : ℕ) → i < n + 2 → row_at (with_column (column_of r) t) i ≡ extended_row (row_at t i) (new_entry (size t) (column_of r) (0 + i) (row_at t i))
      row_is i lt = extended_at (size t) (column_of r) 0 t.rows i (record { weight = pos 0; right = pos 0; entries = [] }) (let e = high in omega arith)

      long : (i : ℕ) → i < n + 2 → n ≤ length (row_at t i).entries
      long i lt =
          let s = size_of in
          let e = spelled_length (size t) i t.columns (row_at t i) (h.tableau.spelled i (omega arith)) in
          let m = h.tableau.columns.enough in
          omega arith

  pub first_start : (entries : List ℕ) → IsStart t entries 0 []
  first_start entries = record {
    tableau = h.tableau;
    order = [];
    held = refl;
    below = λ j lt. absurd (omega arith);
    once = tt;
    same = λ i. refl;
    count = let l = left_all (size t) 0 in omega arith;
    own = λ i lt free. ap (λ xs. get_or xs i 0) h.basis ∙ get_or-range_with_len 0 n i 0 (let s = size_of in omega arith) ∙ omega arith;
    later = λ i x lt free before.
        let s = size_of in
        let below : i < n = omega arith in
        let at : entry_at t i x ≡ get_or (fresh_row n i).entries x (pos 0) = sym (get_or-take n (row_at t i).entries x (pos 0) (omega arith)) ∙ ap (λ xs. get_or xs x (pos 0)) (h.parts i (omega arith)) in
        at ∙ get_or-map-range_with_len (fresh_entry n i) 0 n x x (pos 0) (omega arith) (omega arith) ∙ own_row n i x below (λ e. omega (arith, e, before));
  }

pub fresh_helpers : (n : ℕ) (caps : Limits) → IsHelperTable n caps [] (fresh n caps)
fresh_helpers n caps = record {
  tableau = fresh_tableau n caps;
  limits = refl;
  basis = refl;
  columns = sym (append-nil (helpers n));
  weights = λ i lt. ap (λ (row : Equation). row.weight) (row_is i lt);
  parts = λ i lt. ap (multipliers n) (row_is i lt) ∙ take-map-range_with_len (fresh_entry n i) 0 n n (omega arith);
}
  where
    row_is : (i : ℕ) → i < n + 2 → row_at (fresh n caps) i ≡ fresh_row n i
    row_is i lt = get_or-map-range_with_len (fresh_row n) 0 (n + 2) i i (record { weight = pos 0; right = pos 0; entries = [] }) lt (omega arith)
