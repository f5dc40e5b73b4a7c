-- What the table of a start tells of it.
use Rattle.std.proofs.Common.{◌≡◌, ◌≢◌, ◌∙◌, ℕ, ◌+◌, ◌-◌, ◌<◌, ◌≤◌, arith, refl, sym, ap, subst, ℤ, pos, true, false, List, [], ◌∷◌, ◌++◌, map, length, length-append, get_or, take, append_assoc, ◌⊎◌, inl, inr}
use Rattle.std.proofs.lemmas.Bool.{both_ways, cases_Bool, cases_lt, cases_order}
use Rattle.std.proofs.lemmas.List.{get_or_append_left, get_or-append-add, get_or-append_right, map-append, take-map}
use Rattle.customer_sets.specs.CustSet.{has}
use Rattle.fleet_model.specs.Equations.{Column, column_at, helper}
use Rattle.fleet_model.specs.Basis.{AreIndependent}
use Rattle.fleet_model.specs.Wide.{Follow, IsPast}
use Rattle.master_table.specs.Tableau.{IsBasisPast, IsTableau, Tableau, basis_columns, entry_at, multipliers, row_at, size}
use Rattle.master_table.proofs.Combinations.{length_map}
use Rattle.master_table.proofs.Independence.{is_basis}
use Rattle.master_table.proofs.PastCaps.{table_basis}
use Rattle.master_table.proofs.Pivots.{IsRows}
use Rattle.master_table.proofs.Bases.{basis_column, body_at}
use Rattle.master_table.specs.Leaving.{IsStart, left_rows}
use Rattle.master_table.specs.Starts.{IsStartPast}
use Rattle.master_table.proofs.Dependence.{depends, first_independent}
use Rattle.master_table.proofs.Exchange.{map_at}
use Rattle.master_table.proofs.FollowingHelpers.{at_has, follow_once, follows, has_at, left_at, left_has, left_rise, left_split, once_apart}
use Rattle.master_table.proofs.Moves.{IsOrder, StandsIn, moved_back, moved_rows, moved_there, past_moves}

module _ (t : Tableau) (h : IsTableau t) (entries : List ℕ) (m : ℕ) (taken : List ℕ) (s : IsStart t entries m taken) where
  abbrev n : ℕ
  n = size t

  abbrev B : List Column
  B = basis_columns t

  abbrev left : List ℕ
  left = left_rows taken (size t) 0

  abbrev places : List ℕ
  places = s.order ++ left_rows taken (size t) 0

  abbrev listed : List Column
  listed = take m (map (column_at t.columns) entries)

  count : length (s.order ++ left_rows taken (size t) 0) ≡ size t
  count = length-append s.order (left_rows taken (size t) 0) ∙ s.count

  -- a place is one of the order or one that is left
  in_order : (j : ℕ) → j < length s.order → get_or (s.order ++ left_rows taken (size t) 0) j 0 ≡ get_or s.order j 0
  in_order j lt = get_or_append_left s.order (left_rows taken (size t) 0) 0 j lt

  in_left : (j : ℕ) → length s.order ≤ j → get_or (s.order ++ left_rows taken (size t) 0) j 0 ≡ get_or (left_rows taken (size t) 0) (j - length s.order) 0
  in_left j le = get_or-append_right s.order (left_rows taken (size t) 0) (length s.order) j 0 refl le

  left_row : (j : ℕ) → length s.order ≤ j → j < size t → (get_or places j 0 < size t) × (has taken (get_or places j 0) ≡ false)
  left_row j le lt =
      let good = left_at taken (size t) 0 (j - length s.order) (let c = s.count in omega arith) in
      subst (λ i. (i < size t) × (has taken i ≡ false)) (sym (in_left j le)) (omega (arith, good.1), good.2)

  order_row : (j : ℕ) → j < length s.order → (get_or places j 0 < size t) × (has taken (get_or places j 0) ≡ true)
  order_row j lt = subst (λ i. (i < size t) × (has taken i ≡ true)) (sym (in_order j lt)) (s.below j lt, s.same (get_or s.order j 0) ∙ at_has s.order j lt)

  below_at : (j : ℕ) → j < size t → (j < length s.order) ⊎ (length s.order ≤ j) → get_or places j 0 < size t
  below_at j lt (inl l) = (order_row j l).0
  below_at j lt (inr le) = (left_row j le lt).0

  rises : (i j : ℕ) → i < j → j < size t → (j < length s.order) ⊎ (length s.order ≤ j) → (i < length s.order) ⊎ (length s.order ≤ i) → get_or places i 0 ≢ get_or places j 0
  rises i j lt lj (inl b) a = λ e. once_apart s.order i j s.once lt b (sym (in_order i (omega arith)) ∙ e ∙ in_order j b)
  rises i j lt lj (inr b) (inl a) = λ e. both_ways (has taken (get_or places i 0)) (ap (has taken) e ∙ (left_row j b lj).1) (order_row i a).1
  rises i j lt lj (inr b) (inr a) = λ e.
      let up = left_rise taken (size t) 0 (i - length s.order) (j - length s.order) (omega arith) (let c = s.count in omega arith) in
      let same = sym (in_left i a) ∙ e ∙ in_left j b in
      omega arith

  apart_at : (i j : ℕ) → i < size t → j < size t → i ≢ j → (i ≡ j) ⊎ ((i < j) ⊎ (j < i)) → get_or places i 0 ≢ get_or places j 0
  apart_at i j li lj other (inl e) = absurd (other e)
  apart_at i j li lj other (inr (inl lt)) = rises i j lt lj (cases_lt j (length s.order)) (cases_lt i (length s.order))
  apart_at i j li lj other (inr (inr lt)) = λ e. rises j i lt li (cases_lt i (length s.order)) (cases_lt j (length s.order)) (sym e)

  finds : (i : ℕ) → i < size t → (has taken i ≡ true) ⊎ (has taken i ≡ false) → (j : ℕ) × (j < size t) × (get_or places j 0 ≡ i)
  finds i lt (inl held) =
      let found = has_at s.order i (sym (s.same i) ∙ held) in
      (found.0, (let c = s.count in let l = found.1 in omega arith), in_order found.0 found.1 ∙ found.2)
  finds i lt (inr free) =
      let found = left_has taken (size t) 0 i (omega arith) (omega arith) free in
      (length s.order + found.0, (let c = s.count in let l = found.1 in omega arith), get_or-append-add s.order (left_rows taken (size t) 0) found.0 0 ∙ found.2)

  is_order : IsOrder (size t) (s.order ++ left_rows taken (size t) 0)
  is_order = record {
    count = count;
    below = λ j lt. below_at j lt (cases_lt j (length s.order));
    apart = λ i j li lj other. apart_at i j li lj other (cases_order i j);
    all = λ i lt. finds i lt (cases_Bool (has taken i));
  }

  abbrev rows : ℕ → List ℤ
  rows i = multipliers (size t) (row_at t i)

  rows_at_places : IsRows (size t) (map (column_at (basis_columns t)) (s.order ++ left_rows taken (size t) 0)) (λ j. multipliers (size t) (row_at t (get_or (s.order ++ left_rows taken (size t) 0) j 0)))
  rows_at_places = moved_rows (size t) (basis_columns t) (λ i. multipliers (size t) (row_at t i)) (table_basis t h) (s.order ++ left_rows taken (size t) 0) is_order

  -- the columns at the places: the entries, then the helpers of the rows that are left
  order_columns : map (column_at (basis_columns t)) s.order ≡ take m (map (column_at t.columns) entries)
  order_columns =
      map_at (column_at (basis_columns t)) (λ i. column_at t.columns (get_or t.basis i 0)) s.order (λ j lt. basis_column t h (get_or s.order j 0) (s.below j lt))
      ∙ map_after s.order ∙ ap (map (column_at t.columns)) s.held ∙ sym (take-map (column_at t.columns) m entries)
    where
      map_after : (xs : List ℕ) → map (λ i. column_at t.columns (get_or t.basis i 0)) xs ≡ map (column_at t.columns) (map (λ i. get_or t.basis i 0) xs)
      map_after [] = refl
      map_after (x ∷ xs) = ap (λ ys. column_at t.columns (get_or t.basis x 0) ∷ ys) (map_after xs)

  helper_columns : (more c : ℕ) → c + more ≤ size t → map (column_at (basis_columns t)) (left_rows taken more c) ≡ map helper (left_rows taken more c)
  helper_columns more c le =
      map_at (column_at (basis_columns t)) helper (left_rows taken more c) (λ j lt.
      let good = left_at taken more c j lt in
      let i = get_or (left_rows taken more c) j 0 in
      let below : i < size t = omega (arith, good.1) in
      basis_column t h i below ∙ ap (column_at t.columns) (s.own i below good.2) ∙ h.columns.helped i below)

  columns_are : map (column_at (basis_columns t)) (s.order ++ left_rows taken (size t) 0) ≡ take m (map (column_at t.columns) entries) ++ map helper (left_rows taken (size t) 0)
  columns_are =
      map-append (column_at (basis_columns t)) s.order (left_rows taken (size t) 0)
      ∙ ap (λ xs. xs ++ map (column_at (basis_columns t)) (left_rows taken (size t) 0)) order_columns
      ∙ ap (λ xs. take m (map (column_at t.columns) entries) ++ xs) (helper_columns (size t) 0 (omega arith))

  start_rows : IsRows (size t) (take m (map (column_at t.columns) entries) ++ map helper (left_rows taken (size t) 0)) (λ j. multipliers (size t) (row_at t (get_or (s.order ++ left_rows taken (size t) 0) j 0)))
  start_rows = subst (λ xs. IsRows (size t) xs (λ j. multipliers (size t) (row_at t (get_or (s.order ++ left_rows taken (size t) 0) j 0)))) columns_are rows_at_places

  start_free : AreIndependent (size t) (take m (map (column_at t.columns) entries) ++ map helper (left_rows taken (size t) 0))
  start_free = (is_basis (size t) (take m (map (column_at t.columns) entries) ++ map helper (left_rows taken (size t) 0)) (λ j. multipliers (size t) (row_at t (get_or (s.order ++ left_rows taken (size t) 0) j 0))) start_rows).independent

  -- a column of which the last rows have nothing depends on the columns of the first
  depends_on : (ps qs : List ℕ) → s.order ++ left_rows taken (size t) 0 ≡ ps ++ qs → (col : ℕ) → col < length t.columns → ((k : ℕ) → k < length qs → entry_at t (get_or qs k 0) col ≡ pos 0)
      → AreIndependent (size t) (map (column_at (basis_columns t)) ps ++ column_at t.columns col ∷ []) → ⊥
  depends_on ps qs e col inside none =
      let split = ap (map (column_at (basis_columns t))) e ∙ map-append (column_at (basis_columns t)) ps qs in
      let is = subst (λ xs. IsRows (size t) xs (λ j. multipliers (size t) (row_at t (get_or (s.order ++ left_rows taken (size t) 0) j 0)))) split rows_at_places in
      depends (size t) (map (column_at (basis_columns t)) ps) (map (column_at (basis_columns t)) qs) (λ j. multipliers (size t) (row_at t (get_or (s.order ++ left_rows taken (size t) 0) j 0))) is (column_at t.columns col)
      (λ j le lt.
      let l = length_map (column_at (basis_columns t)) ps in
      let a = length-append ps qs in
      let c = count in
      let all = ap length e in
      let at : get_or (s.order ++ left_rows taken (size t) 0) j 0 ≡ get_or qs (j - length ps) 0 = ap (λ xs. get_or xs j 0) e ∙ get_or-append_right ps qs (length ps) j 0 refl (omega arith) in
      let zero_at = none (j - length ps) (omega arith) in
      sym (body_at t h (get_or (s.order ++ left_rows taken (size t) 0) j 0) col (below_at j lt (cases_lt j (length s.order))) inside) ∙ ap (λ i. entry_at t i col) at ∙ zero_at)

  -- no helper may go: the next entry depends on those before
  pub next_depends : (col : ℕ) → col < length t.columns → ((i : ℕ) → i < size t → has taken i ≡ false → entry_at t i col ≡ pos 0) → AreIndependent (size t) (take m (map (column_at t.columns) entries) ++ column_at t.columns col ∷ []) → ⊥
  next_depends col inside none free =
      depends_on s.order (left_rows taken (size t) 0) refl col inside (λ k lt. let good = left_at taken (size t) 0 k lt in none (get_or (left_rows taken (size t) 0) k 0) (omega (arith, good.1)) good.2)
      (subst (λ xs. AreIndependent (size t) (xs ++ column_at t.columns col ∷ [])) (sym order_columns) free)

  helper_depends : (x : ℕ) → x < size t → has taken x ≡ true → AreIndependent (size t) ((take m (map (column_at t.columns) entries) ++ map helper (left_rows taken x 0)) ++ helper x ∷ []) → ⊥
  helper_depends x lt held free =
      let sum : x + (size t - x) ≡ size t = omega arith in
      let z : 0 + x ≡ x = omega arith in
      let split : left_rows taken (size t) 0 ≡ left_rows taken x 0 ++ left_rows taken (size t - x) x = ap (λ k. left_rows taken k 0) (sym sum) ∙ left_split taken x (size t - x) 0 x z in
      let all : s.order ++ left_rows taken (size t) 0 ≡ (s.order ++ left_rows taken x 0) ++ left_rows taken (size t - x) x = ap (λ xs. s.order ++ xs) split ∙ sym (append_assoc s.order (left_rows taken x 0) (left_rows taken (size t - x) x)) in
      let front : map (column_at (basis_columns t)) (s.order ++ left_rows taken x 0) ≡ take m (map (column_at t.columns) entries) ++ map helper (left_rows taken x 0) =
      map-append (column_at (basis_columns t)) s.order (left_rows taken x 0) ∙ ap (λ xs. xs ++ map (column_at (basis_columns t)) (left_rows taken x 0)) order_columns
      ∙ ap (λ xs. take m (map (column_at t.columns) entries) ++ xs) (helper_columns x 0 (omega arith)) in
      let enough = h.columns.enough in
      depends_on (s.order ++ left_rows taken x 0) (left_rows taken (size t - x) x) all x (omega arith)
      (λ k l.
      let good = left_at taken (size t - x) x k l in
      let i = get_or (left_rows taken (size t - x) x) k 0 in
      let other : x ≢ i = (λ e. both_ways (has taken i) good.2 (ap (has taken) (sym e) ∙ held)) in
      s.later i x (omega (arith, good.1)) good.2 (omega (arith, good.0, other)))
      (subst (λ xs. AreIndependent (size t) (xs ++ column_at t.columns x ∷ [])) (sym front)
      (subst (λ b. AreIndependent (size t) ((take m (map (column_at t.columns) entries) ++ map helper (left_rows taken x 0)) ++ b ∷ [])) (sym (h.columns.helped x lt)) free))

  start_follow : Follow (size t) (size t) 0 (take m (map (column_at t.columns) entries)) (left_rows taken (size t) 0)
  start_follow = follows (size t) taken (take m (map (column_at t.columns) entries)) helper_depends start_free

  there : StandsIn (size t) (basis_columns t) (take m (map (column_at t.columns) entries) ++ map helper (left_rows taken (size t) 0))
  there = subst (λ xs. StandsIn (size t) (basis_columns t) xs) columns_are (moved_there (size t) (basis_columns t) (λ i. multipliers (size t) (row_at t i)) (table_basis t h) (s.order ++ left_rows taken (size t) 0) is_order)

  back : StandsIn (size t) (take m (map (column_at t.columns) entries) ++ map helper (left_rows taken (size t) 0)) (basis_columns t)
  back = subst (λ xs. StandsIn (size t) xs (basis_columns t)) columns_are (moved_back (size t) (basis_columns t) (λ i. multipliers (size t) (row_at t i)) (table_basis t h) (s.order ++ left_rows taken (size t) 0) is_order)

  pub start_past : IsBasisPast t → IsStartPast t.caps.body t.caps.cost (size t) t.columns (map (column_at t.columns) entries) m
  start_past p = record {
    independent = first_independent (size t) (take m (map (column_at t.columns) entries)) (map helper (left_rows taken (size t) 0)) start_free;
    customers = left_rows taken (size t) 0;
    follow = start_follow;
    past = past_moves (size t) (basis_columns t) (take m (map (column_at t.columns) entries) ++ map helper (left_rows taken (size t) 0)) (λ i. multipliers (size t) (row_at t i))
        (λ j. multipliers (size t) (row_at t (get_or (s.order ++ left_rows taken (size t) 0) j 0))) (table_basis t h) start_rows there back t.caps.body t.caps.cost t.columns p;
  }

  pub past_from_start : IsStartPast t.caps.body t.caps.cost (size t) t.columns (map (column_at t.columns) entries) m → IsBasisPast t
  past_from_start p =
      let same = follow_once (size t) (size t) 0 (take m (map (column_at t.columns) entries)) p.customers (left_rows taken (size t) 0) p.follow start_follow in
      let past = subst (λ xs. IsPast t.caps.body t.caps.cost (size t) t.columns (take m (map (column_at t.columns) entries) ++ map helper xs)) same p.past in
      past_moves (size t) (take m (map (column_at t.columns) entries) ++ map helper (left_rows taken (size t) 0)) (basis_columns t)
      (λ j. multipliers (size t) (row_at t (get_or (s.order ++ left_rows taken (size t) 0) j 0))) (λ i. multipliers (size t) (row_at t i)) start_rows (table_basis t h) back there t.caps.body t.caps.cost t.columns past
