-- What holds of the fields of a table.
use Rattle.std.proofs.Common.{◌≡◌, ◌≢◌, ◌∙◌, ℕ, ◌+◌, ◌<◌, ◌≤◌, ◌^◌, arith, refl, sym, ap, subst, ℤ, pos, List, [], ◌∷◌, map, length, get_or, set, length-set, None, ◌++◌, append-nil, append_assoc, Vec, ◌<ℤ◌, unsigned_abs, nat_lt, false, le-ltb, cond}
use Rattle.std.proofs.lemmas.List.{get_or-map, length-append, map-append}
use Rattle.std.proofs.lemmas.List.FromFn.{length-range_with_len}
use Rattle.std.specs.Global.{Global}
use Rattle.std.specs.List.{range_with_len}
use Rattle.fleet_model.specs.Equations.{Column, helper, helpers, route}
use Rattle.master_table.specs.Tableau.{Equation, IsRowWithin, IsTableau, IsWithinCaps, Limits, Tableau, row_at, size, weight_cap}
use Rattle.master_table.specs.Pivoting.{IsPivotOf, combined_row, divisor, excess, pivoted, rows_after, turned_row}
use Rattle.master_table.specs.FirstPast.{first_past, past_of}
use Rattle.master_table.specs.RowView.{IsSmallRow, equation_of, limits_of}
use Rattle.master_table.specs.TableView.{IsTable, column_of, tableau_of}
use Rattle.master_table.specs.declared.rows.Row.{Row}
use Rattle.master_table.specs.declared.table.Table.TheInside.{Inside}
use Rattle.master_table.specs.Adding.{extended_rows, first_past_row, new_entries, past_row, with_column}
use Rattle.master_table.specs.declared.table.AddedColumn.{AddedColumn}
use Rattle.master_table.proofs.Combinations.{length_map, spelled_length}
use Rattle.master_table.proofs.Added.{added_tableau, added_within, length_new}
use Rattle.master_table.specs.Fresh.{fresh, fresh_row}
use Rattle.master_table.proofs.FreshFacts.{fresh_tableau, fresh_within}
use Rattle.master_table.proofs.Facts.{body_small, row_small, turn_length, turn_small, within_of}
use Rattle.master_table.proofs.Tableaus.{length_after, pivot_of, pivoted_tableau, some_divisor}
use Rattle.master_table.proofs.SameSolutions.{same_solutions}
use Rattle.master_table.specs.Solutions.{HaveSameSolutions}

abbrev made : List Equation → List ℕ → List Column → Limits → Tableau
made rows basis columns caps = record { rows = rows; basis = basis; columns = columns; caps = caps }

pub same_tableau : (a b : Tableau) → a.rows ≡ b.rows → a.basis ≡ b.basis → a.columns ≡ b.columns → a.caps ≡ b.caps → a ≡ b
same_tableau a b p q r s =
    ap (λ x. made x a.basis a.columns a.caps) p ∙ ap (λ x. made b.rows x a.columns a.caps) q ∙ ap (λ x. made b.rows b.basis x a.caps) r ∙ ap (λ x. made b.rows b.basis b.columns x) s

pub count_columns : (s : Inside) → length (tableau_of s).columns ≡ length s.basis.items + length s.added.items
count_columns s =
    let all = length-append (helpers (length s.basis.items)) (map column_of s.added.items) in
    let first = length_map helper (range_with_len 0 (length s.basis.items)) ∙ length-range_with_len 0 (length s.basis.items) in
    let last = length_map column_of s.added.items in
    omega arith

module _ (s : Inside) (t : Tableau) (view : tableau_of s ≡ t) (inv : IsTable s) where
  pub tableau : IsTableau t
  tableau = subst IsTableau view inv.tableau

  pub within : IsWithinCaps t
  within = subst IsWithinCaps view inv.within

  pub rows_are : map equation_of s.rows.items ≡ t.rows
  rows_are = ap (λ (u : Tableau). u.rows) view

  pub size_is : length s.basis.items ≡ size t
  size_is = ap size view

  pub count_rows : length s.rows.items ≡ size t + 2
  count_rows = sym (length_map equation_of s.rows.items) ∙ ap length rows_are ∙ tableau.high

  pub row_is : (i : ℕ) (d : Row) → i < length s.rows.items → equation_of (get_or s.rows.items i d) ≡ row_at t i
  row_is i d lt = sym (get_or-map equation_of s.rows.items i d (record { weight = pos 0; right = pos 0; entries = [] }) lt) ∙ ap (λ rows. get_or rows i (record { weight = pos 0; right = pos 0; entries = [] })) rows_are

  pub body_cap : t.caps.body ≤ 2 ^ 40
  body_cap = subst (λ (u : Tableau). u.caps.body ≤ 2 ^ 40) view inv.body

  pub cost_cap : t.caps.cost ≤ 2 ^ 84
  cost_cap = subst (λ (u : Tableau). u.caps.cost ≤ 2 ^ 84) view inv.cost

  pub rows_small : (i : ℕ) (d : Row) → i < length s.rows.items → IsSmallRow (2 ^ 84) (equation_of (get_or s.rows.items i d))
  rows_small i d lt = subst (IsSmallRow (2 ^ 84)) (sym (row_is i d lt)) (row_small t.caps (size t) i (2 ^ 84) (row_at t i) (let b = body_cap in omega arith) cost_cap (within i (omega (arith, count_rows))))

  pub bodies_small : (i : ℕ) → i < size t → IsSmallRow (2 ^ 40) (row_at t i)
  bodies_small i lt = body_small t.caps (size t) i (2 ^ 40) (row_at t i) lt body_cap (within i (omega arith))

  pub row_length : (i : ℕ) (d : Row) → i < length s.rows.items → length (get_or s.rows.items i d).entries.items ≡ length t.columns
  row_length i d lt = ap (λ (row : Equation). length row.entries) (row_is i d lt) ∙ spelled_length (size t) i t.columns (row_at t i) (tableau.spelled i (omega (arith, count_rows)))

  -- ---- a pivot
  module _ (r col : ℕ) (below : r < size t) (inside : col < length t.columns) (some : get_or (row_at t r).entries col (pos 0) ≢ pos 0) where
    abbrev turn : Equation
    turn = turned_row col (row_at t r)

    pub pivot_small : IsSmallRow (2 ^ 40) turn
    pivot_small = turn_small (2 ^ 40) col (row_at t r) (bodies_small r below)

    pub pivot_length : length turn.entries ≡ length t.columns
    pivot_length = turn_length col (row_at t r) ∙ spelled_length (size t) r t.columns (row_at t r) (tableau.spelled r (omega arith))

    pub pivot_some : (i : ℕ) (d : Row) → i < length s.rows.items → i ≢ r
        → 0 < divisor (size t) (combined_row (get_or turn.entries col (pos 0)) (excess (size t) col i (equation_of (get_or s.rows.items i d))) (equation_of (get_or s.rows.items i d)) turn)
    pivot_some i d lt apart =
        subst (λ row. 0 < divisor (size t) (combined_row (get_or turn.entries col (pos 0)) (excess (size t) col i row) row turn)) (sym (row_is i d lt))
        (some_divisor t tableau r col below inside some i (omega (arith, count_rows)) apart)

    pub pivot_tableau : IsTableau (pivoted r col t)
    pivot_tableau = pivoted_tableau t tableau r col below inside some

    pub pivot_rows : IsPivotOf r col t (pivoted r col t)
    pivot_rows = pivot_of t tableau r col below inside some

    pub pivot_solutions : HaveSameSolutions t (pivoted r col t)
    pivot_solutions = same_solutions r col t (pivoted r col t) tableau pivot_tableau below pivot_rows

    turn_of : (row : Row) → row ≡ get_or s.rows.items r row → turned_row col (equation_of row) ≡ turn
    turn_of row e = ap (turned_row col) (ap equation_of e ∙ row_is r row (omega (arith, count_rows)))

    pub index_small : (row : Row) → row ≡ get_or s.rows.items r row → IsSmallRow (2 ^ 40) (equation_of row)
    index_small row e = subst (IsSmallRow (2 ^ 40)) (sym (ap equation_of e ∙ row_is r row (omega (arith, count_rows)))) (bodies_small r below)

    -- what the code calls its row of the pivot, its rows and its number of customers
    module _ (row : Row) (is_row : row ≡ get_or s.rows.items r row) (turned : Row) (is_turned : equation_of turned ≡ turned_row col (equation_of row)) (rows : List Row) (are_rows : rows ≡ s.rows.items) (m : ℕ) (is_m : m ≡ length s.basis.items) where
      pub turned_is : equation_of turned ≡ turn
      turned_is = is_turned ∙ turn_of row is_row

      pub turned_small : IsSmallRow (2 ^ 40) (equation_of turned)
      turned_small = subst (IsSmallRow (2 ^ 40)) (sym turned_is) pivot_small

      pub turned_length : (i : ℕ) (d : Row) → i < length rows → length (get_or rows i d).entries.items ≡ length turned.entries.items
      turned_length i d lt =
          let here = row_length i d (omega (arith, ap (λ (xs : List Row). length xs) are_rows)) in
          let same = ap (λ (xs : List Row). length (get_or xs i d).entries.items) are_rows in
          let there = ap (λ (line : Equation). length line.entries) turned_is ∙ pivot_length in
          omega arith

      pub all_small : (i : ℕ) (d : Row) → i < length rows → IsSmallRow (2 ^ 84) (equation_of (get_or rows i d))
      all_small i d lt = subst (λ (xs : List Row). IsSmallRow (2 ^ 84) (equation_of (get_or xs i d))) (sym are_rows) (rows_small i d (omega (arith, ap (λ (xs : List Row). length xs) are_rows)))

      pub all_some : (i : ℕ) (d : Row) → i < length rows → i ≢ r
          → 0 < divisor m (combined_row (get_or turned.entries.items col (pos 0)) (excess m col i (equation_of (get_or rows i d))) (equation_of (get_or rows i d)) (equation_of turned))
      all_some i d lt apart =
          subst (λ k. 0 < divisor k (combined_row (get_or turned.entries.items col (pos 0)) (excess k col i (equation_of (get_or rows i d))) (equation_of (get_or rows i d)) (equation_of turned))) (sym (is_m ∙ size_is))
          (subst (λ (xs : List Row). 0 < divisor (size t) (combined_row (get_or turned.entries.items col (pos 0)) (excess (size t) col i (equation_of (get_or xs i d))) (equation_of (get_or xs i d)) (equation_of turned))) (sym are_rows)
          (subst (λ (line : Equation). 0 < divisor (size t) (combined_row (get_or line.entries col (pos 0)) (excess (size t) col i (equation_of (get_or s.rows.items i d))) (equation_of (get_or s.rows.items i d)) line)) (sym turned_is)
          (pivot_some i d (omega (arith, ap (λ (xs : List Row). length xs) are_rows)) apart)))

      pub pivot_same : rows_after m r col (equation_of turned) 0 (map equation_of rows) ≡ (pivoted r col t).rows
      pivot_same =
          ap (λ k. rows_after k r col (equation_of turned) 0 (map equation_of rows)) (is_m ∙ size_is)
          ∙ ap (λ line. rows_after (size t) r col line 0 (map equation_of rows)) turned_is
          ∙ ap (λ xs. rows_after (size t) r col turn 0 xs) (ap (map equation_of) are_rows ∙ rows_are)

      pub first_same : past_of (limits_of s.caps) m 0 (rows_after m r col (equation_of turned) 0 (map equation_of rows)) ≡ first_past (pivoted r col t)
      first_same =
          ap (λ k. past_of (limits_of s.caps) k 0 (rows_after m r col (equation_of turned) 0 (map equation_of rows))) (is_m ∙ size_is ∙ sym (length-set t.basis r col))
          ∙ ap (λ caps. past_of caps (size (pivoted r col t)) 0 (rows_after m r col (equation_of turned) 0 (map equation_of rows))) (ap (λ (u : Tableau). u.caps) view)
          ∙ ap (past_of t.caps (size (pivoted r col t)) 0) pivot_same

    -- the table with the new rows
    module _ (rows : Vec Row Global) (basis : Vec ℕ Global) (are_rows : map equation_of rows.items ≡ (pivoted r col t).rows) (are_basis : basis.items ≡ set s.basis.items r col) (none : first_past (pivoted r col t) ≡ None) where
      abbrev new : Inside
      new = record { rows = rows; basis = basis; added = s.added; caps = s.caps }

      new_is : tableau_of new ≡ pivoted r col t
      new_is = same_tableau (tableau_of new) (pivoted r col t) are_rows (are_basis ∙ ap (λ (u : Tableau). set u.basis r col) view)
          (ap (λ (xs : List ℕ). helpers (length xs) ++ map column_of s.added.items) are_basis ∙ ap (λ k. helpers k ++ map column_of s.added.items) (length-set s.basis.items r col) ∙ ap (λ (u : Tableau). u.columns) view)
          (ap (λ (u : Tableau). u.caps) view)

      pivot_within : IsWithinCaps (pivoted r col t)
      pivot_within i lt =
          let high = length_after (size t) r col turn 0 t.rows ∙ tableau.high in
          let same = length-set t.basis r col in
          let place : 0 + i ≡ i = omega arith in
          subst (λ j. IsRowWithin t.caps (size (pivoted r col t)) j (row_at (pivoted r col t) i)) place (within_of t.caps (size (pivoted r col t)) 0 (pivoted r col t).rows none i (record { weight = pos 0; right = pos 0; entries = [] }) (omega arith))

      pub new_table : IsTable new
      new_table = record {
        small = let e = ap (λ (xs : List ℕ). length xs) are_basis ∙ length-set s.basis.items r col in let l = inv.small in omega arith;
        tableau = subst IsTableau (sym new_is) pivot_tableau;
        within = subst IsWithinCaps (sym new_is) pivot_within;
        body = inv.body;
        cost = inv.cost;
      }

  pub weight_facts : (m : ℕ) → m ≡ length s.basis.items → (row : Row) → row ≡ get_or s.rows.items m row → (pos 0 <ℤ row.weight) × (unsigned_abs row.weight ≤ 2 ^ 40)
  weight_facts m is_m row is_row =
      let at : get_or s.rows.items m row ≡ get_or s.rows.items (size t) row = ap (λ k. get_or s.rows.items k row) (is_m ∙ size_is) in
      let is : equation_of row ≡ row_at t (size t) = ap equation_of (is_row ∙ at) ∙ row_is (size t) row (omega (arith, count_rows)) in
      let w : row.weight ≡ (row_at t (size t)).weight = ap (λ (line : Equation). line.weight) is in
      let small = (within (size t) (omega arith)).weight in
      let no : nat_lt (size t) (size t) ≡ false = le-ltb (size t) (size t) (omega arith) in
      let cap : weight_cap t.caps (size t) (size t) ≡ t.caps.body = ap (λ b. cond b t.caps.cost t.caps.body) no in
      let body = body_cap in
      let le : unsigned_abs (row_at t (size t)).weight ≤ 2 ^ 40 = omega arith in
      (subst (λ z. pos 0 <ℤ z) (sym w) tableau.price_list.list.some, subst (λ z. unsigned_abs z ≤ 2 ^ 40) (sym w) le)

  pub few_weights : (i : ℕ) (d : Row) → i < length s.rows.items → i ≤ size t → unsigned_abs (get_or s.rows.items i d).weight ≤ 2 ^ 40
  few_weights i d lt le =
      let w : (get_or s.rows.items i d).weight ≡ (row_at t i).weight = ap (λ (line : Equation). line.weight) (row_is i d lt) in
      let small = (within i (omega arith)).weight in
      let no : nat_lt (size t) i ≡ false = le-ltb (size t) i le in
      let cap : weight_cap t.caps (size t) i ≡ t.caps.body = ap (λ b. cond b t.caps.cost t.caps.body) no in
      let body = body_cap in
      let below : unsigned_abs (row_at t i).weight ≤ 2 ^ 40 = omega arith in
      subst (λ z. unsigned_abs z ≤ 2 ^ 40) (sym w) below

  pub long_rows : (i : ℕ) (d : Row) → i < length s.rows.items → size t ≤ length (get_or s.rows.items i d).entries.items
  long_rows i d lt = let e = row_length i d lt in let m = tableau.columns.enough in omega arith

  -- ---- a further column
  module _ (set : List ℕ) (cost : ℕ) where
    abbrev b : Column
    b = route set cost

    pub column_tableau : IsTableau (with_column b t)
    column_tableau = added_tableau t tableau b refl

    module _ (slice : List Row) (are_slice : slice ≡ s.rows.items) (m : ℕ) (is_m : m ≡ length s.basis.items) (entries : List ℤ) (are_entries : entries ≡ new_entries m b 0 (map equation_of slice)) where
      pub entries_are : entries ≡ new_entries (size t) b 0 t.rows
      entries_are = are_entries ∙ ap (λ k. new_entries k b 0 (map equation_of slice)) (is_m ∙ size_is) ∙ ap (new_entries (size t) b 0) (ap (map equation_of) are_slice ∙ rows_are)

      pub count_entries : length entries ≡ length s.rows.items
      count_entries = ap length entries_are ∙ length_new (size t) b 0 t.rows ∙ ap length (sym rows_are) ∙ length_map equation_of s.rows.items

      pub past_is : past_row (limits_of s.caps) m 0 entries ≡ first_past_row b t
      past_is = ap (λ k. past_row (limits_of s.caps) k 0 entries) (is_m ∙ size_is) ∙ ap (λ caps. past_row caps (size t) 0 entries) (ap (λ (u : Tableau). u.caps) view) ∙ ap (past_row t.caps (size t) 0) entries_are

      pub same_count : (rows : List Row) → map equation_of rows ≡ map equation_of s.rows.items → length rows ≡ length entries
      same_count rows e = sym (length_map equation_of rows) ∙ ap length e ∙ length_map equation_of s.rows.items ∙ sym count_entries

      module _ (none : past_row (limits_of s.caps) m 0 entries ≡ None) (room : List Row) (same_room : map equation_of room ≡ map equation_of s.rows.items) (rows : Vec Row Global) (are_rows : map equation_of rows.items ≡ extended_rows (map equation_of room) entries)
          (added : Vec AddedColumn Global) (are_added : added.items ≡ s.added.items ++ (record { set = set; cost = cost }) ∷ []) where
        abbrev wider : Inside
        wider = record { rows = rows; basis = s.basis; added = added; caps = s.caps }

        wider_is : tableau_of wider ≡ with_column b t
        wider_is = same_tableau (tableau_of wider) (with_column b t)
            (are_rows ∙ ap (λ xs. extended_rows xs entries) (same_room ∙ rows_are) ∙ ap (extended_rows t.rows) entries_are)
            (ap (λ (u : Tableau). u.basis) view)
            (ap (λ xs. helpers (length s.basis.items) ++ map column_of xs) are_added
            ∙ ap (λ xs. helpers (length s.basis.items) ++ xs) (map-append column_of s.added.items (record { set = set; cost = cost } ∷ []))
            ∙ sym (append_assoc (helpers (length s.basis.items)) (map column_of s.added.items) (b ∷ []))
            ∙ ap (λ xs. xs ++ b ∷ []) (ap (λ (u : Tableau). u.columns) view))
            (ap (λ (u : Tableau). u.caps) view)

        pub wider_table : IsTable wider
        wider_table = record {
          small = inv.small;
          tableau = subst IsTableau (sym wider_is) column_tableau;
          within = subst IsWithinCaps (sym wider_is) (added_within t tableau b refl within (sym past_is ∙ none));
          body = inv.body;
          cost = inv.cost;
        }

-- ---- the table before any pivot
module _ (s : Inside) (n : ℕ) (few : n ≤ 128) (are_rows : map equation_of s.rows.items ≡ map (fresh_row n) (range_with_len 0 (n + 2))) (are_basis : s.basis.items ≡ range_with_len 0 n) (no_more : s.added.items ≡ []) where
  size_fresh : length s.basis.items ≡ n
  size_fresh = ap length are_basis ∙ length-range_with_len 0 n

  pub fresh_is : tableau_of s ≡ fresh n (limits_of s.caps)
  fresh_is = same_tableau (tableau_of s) (fresh n (limits_of s.caps)) are_rows are_basis
      (ap (λ xs. helpers (length s.basis.items) ++ map column_of xs) no_more ∙ append-nil (helpers (length s.basis.items)) ∙ ap helpers size_fresh) refl

  pub fresh_table : 1 ≤ s.caps.body → s.caps.body ≤ 2 ^ 40 → 1 ≤ s.caps.cost → s.caps.cost ≤ 2 ^ 84 → n ≤ s.caps.cost → IsTable s
  fresh_table body body_cap cost cost_cap room = record {
    small = let e = size_fresh in omega arith;
    tableau = subst IsTableau (sym fresh_is) (fresh_tableau n (limits_of s.caps));
    within = subst IsWithinCaps (sym fresh_is) (fresh_within n (limits_of s.caps) body cost room);
    body = body_cap;
    cost = cost_cap;
  }
