-- A basis whose table has a number past its cap is past the caps.
use Rattle.std.proofs.Common.{◌≡◌, ◌≢◌, ◌∙◌, ℕ, suc, ◌+◌, ◌<◌, ◌≤◌, arith, refl, sym, ap, subst, ℤ, pos, ◌+ℤ◌, ◌-ℤ◌, ◌*ℤ◌, unsigned_abs, List, [], ◌∷◌, length, get_or, true, false, cond, nat_lt, lt-ltb, le-ltb, Option, Some, None, ◌⊎◌, inl, inr}
use Rattle.std.proofs.lemmas.Int.{ints}
use Rattle.std.proofs.lemmas.Bool.{cases_lt}
use Rattle.std.proofs.lemmas.List.{get_or-map}
use Rattle.std.proofs.lemmas.Option.{none-some}
use Rattle.fleet_model.specs.Equations.{Column, column_at, cost_of, entry, right_side, route, serves}
use Rattle.fleet_model.specs.Basis.{IsBasis}
use Rattle.fleet_model.specs.Wide.{IsPast}
use Rattle.fleet_model.proofs.Signs.{same_or_not}
use Rattle.master_table.specs.Tableau.{Equation, IsTableau, Limits, Tableau, basis_columns, charge, entry_cap, multipliers, prices_of, row_at, size, weight_cap}
use Rattle.master_table.specs.FirstPast.{first_past, or_later, or_place, past_from, past_in, past_of}
use Rattle.master_table.proofs.Combinations.{length_map, spelled_length}
use Rattle.master_table.proofs.Independence.{is_basis}
use Rattle.master_table.proofs.Pivots.{IsRows}
use Rattle.master_table.proofs.CombinedRows.{total_neg}

-- ---- the number that is named
pub IsEntryPast : ℕ → List ℤ → Type 0
IsEntryPast cap zs = (k : ℕ) × (k < length zs) × (cap < unsigned_abs (get_or zs k (pos 0)))

pub IsRowPast : Limits → ℕ → ℕ → Equation → Type 0
IsRowPast caps n i row = IsEntryPast (entry_cap caps n i) row.entries ⊎ (entry_cap caps n i < unsigned_abs row.right) ⊎ (weight_cap caps n i < unsigned_abs row.weight)

past_entry : (cap j : ℕ) (zs : List ℤ) (p : ℕ) → past_from cap j zs ≡ Some p → IsEntryPast cap zs
unfolding IsEntryPast
past_entry cap j [] p e = absurd (none-some p e)
past_entry cap j (z ∷ zs) p e = by_cases (cases_lt cap (unsigned_abs z)) (past_entry cap (j + 1) zs p)
  where
    by_cases : (cap < unsigned_abs z) ⊎ (unsigned_abs z ≤ cap) → (past_from cap (j + 1) zs ≡ Some p → (k : ℕ) × (k < length zs) × (cap < unsigned_abs (get_or zs k (pos 0)))) → IsEntryPast cap (z ∷ zs)
    by_cases (inl lt) rest = (0, omega arith, lt)
    by_cases (inr le) rest =
        let below : nat_lt cap (unsigned_abs z) ≡ false = le-ltb cap (unsigned_abs z) le in
        let later : past_from cap (j + 1) zs ≡ Some p = sym (ap (λ t. cond t (Some j) (past_from cap (j + 1) zs)) below) ∙ e in
        let found = rest later in
        (suc found.0, omega (arith, found.1), found.2)

past_rest : (caps : Limits) (n i : ℕ) (row : Equation) (p : ℕ)
    → cond (nat_lt (entry_cap caps n i) (unsigned_abs row.right)) (Some (length row.entries)) (cond (nat_lt (weight_cap caps n i) (unsigned_abs row.weight)) (Some (length row.entries + 1)) None) ≡ Some p
    → (entry_cap caps n i < unsigned_abs row.right) ⊎ (weight_cap caps n i < unsigned_abs row.weight)
past_rest caps n i row p e = by_right (cases_lt (entry_cap caps n i) (unsigned_abs row.right))
  where
    by_weight : nat_lt (entry_cap caps n i) (unsigned_abs row.right) ≡ false → (weight_cap caps n i < unsigned_abs row.weight) ⊎ (unsigned_abs row.weight ≤ weight_cap caps n i)
        → (entry_cap caps n i < unsigned_abs row.right) ⊎ (weight_cap caps n i < unsigned_abs row.weight)
    by_weight small (inl lt) = inr lt
    by_weight small (inr le) =
        let also : nat_lt (weight_cap caps n i) (unsigned_abs row.weight) ≡ false = le-ltb (weight_cap caps n i) (unsigned_abs row.weight) le in
        let a = ap (λ t. cond t (Some (length row.entries)) (cond (nat_lt (weight_cap caps n i) (unsigned_abs row.weight)) (Some (length row.entries + 1)) None)) small in
        let b = ap (λ t. cond t (Some (length row.entries + 1)) None) also in
        absurd (none-some p (sym b ∙ sym a ∙ e))

    by_right : (entry_cap caps n i < unsigned_abs row.right) ⊎ (unsigned_abs row.right ≤ entry_cap caps n i)
        → (entry_cap caps n i < unsigned_abs row.right) ⊎ (weight_cap caps n i < unsigned_abs row.weight)
    by_right (inl lt) = inl lt
    by_right (inr le) = by_weight (le-ltb (entry_cap caps n i) (unsigned_abs row.right) le) (cases_lt (weight_cap caps n i) (unsigned_abs row.weight))

or_place_some : (a b : Option ℕ) (p : ℕ) → or_place a b ≡ Some p → (a ≡ Some p) ⊎ (b ≡ Some p)
or_place_some (Some j) b p e = inl e
or_place_some None b p e = inr e

past_row : (caps : Limits) (n i : ℕ) (row : Equation) (p : ℕ) → past_in caps n i row ≡ Some p → IsRowPast caps n i row
unfolding IsRowPast
past_row caps n i row p e = by_cases (or_place_some (past_from (entry_cap caps n i) 0 row.entries) _ p e)
  where
    by_cases : (past_from (entry_cap caps n i) 0 row.entries ≡ Some p)
        ⊎ (cond (nat_lt (entry_cap caps n i) (unsigned_abs row.right)) (Some (length row.entries)) (cond (nat_lt (weight_cap caps n i) (unsigned_abs row.weight)) (Some (length row.entries + 1)) None) ≡ Some p)
        → IsRowPast caps n i row
    by_cases (inl f) = inl (past_entry (entry_cap caps n i) 0 row.entries p f)
    by_cases (inr f) = inr (past_rest caps n i row p f)

abbrev SomePast : Limits → ℕ → ℕ → List Equation → Type 0
SomePast caps n i rows = (k : ℕ) × (k < length rows) × ((d : Equation) → IsRowPast caps n (i + k) (get_or rows k d))

past_rows : (caps : Limits) (n i : ℕ) (rows : List Equation) (p : ℕ × ℕ) → past_of caps n i rows ≡ Some p → SomePast caps n i rows
past_rows caps n i [] p e = absurd (none-some p e)
past_rows caps n i (row ∷ rows) p e = by_cases (past_in caps n i row) refl (past_rows caps n (i + 1) rows p)
  where
    by_cases : (o : Option ℕ) → past_in caps n i row ≡ o → (past_of caps n (i + 1) rows ≡ Some p → SomePast caps n (i + 1) rows) → SomePast caps n i (row ∷ rows)
    by_cases (Some j) is rest = (0, omega arith, λ d. subst (λ m. IsRowPast caps n m row) (let s : i ≡ i + 0 = omega arith in s) (past_row caps n i row j is))
    by_cases None is rest =
        let later : past_of caps n (i + 1) rows ≡ Some p = sym (ap (λ o. or_later i o (past_of caps n (i + 1) rows)) is) ∙ e in
        let found = rest later in
        (suc found.0, omega (arith, found.1), λ d. subst (λ m. IsRowPast caps n m (get_or rows found.0 d)) (let s : (i + 1) + found.0 ≡ i + suc found.0 = omega arith in s) (found.2 d))

-- ---- a table with such a number
module _ (t : Tableau) (h : IsTableau t) where
  abbrev n : ℕ
  n = size t

  abbrev row : ℕ → Equation
  row i = row_at t i

  abbrev B : List Column
  B = basis_columns t

  pub table_basis : IsRows n B (λ i. multipliers n (row i))
  table_basis = record { count = length_map (column_at t.columns) t.basis; bodies = h.bodies; determined = h.determined }

  pub basis_of : IsBasis n B
  basis_of = is_basis n B (λ i. multipliers n (row i)) table_basis

  at : (i : ℕ) → i < n + 2 → (k : ℕ) → k < length (row i).entries → get_or (row i).entries k (pos 0) ≡ (row i).weight *ℤ charge n i (column_at t.columns k) +ℤ entry (multipliers n (row i)) (column_at t.columns k)
  at i lt k l =
      let s = h.spelled i lt in
      ap (λ xs. get_or xs k (pos 0)) s.entries
      ∙ get_or-map (λ b. (row i).weight *ℤ charge n i b +ℤ entry (multipliers n (row i)) b) t.columns k (route [] 0) (pos 0) (let e = spelled_length n i t.columns (row i) s in omega arith)

  within_columns : (i : ℕ) → i < n + 2 → (k : ℕ) → k < length (row i).entries → k < length t.columns
  within_columns i lt k l = let e = spelled_length n i t.columns (row i) (h.spelled i lt) in omega arith

  body_past : (i : ℕ) → i < n → IsRowPast t.caps n i (row i) → IsPast t.caps.body t.caps.cost n t.columns B
  unfolding IsRowPast IsEntryPast
  body_past i lt p = record { is_basis = basis_of; past = inl (i, multipliers n (row i), lt, h.bodies i lt, by_cases p) }
    where
      cap : entry_cap t.caps n i ≡ t.caps.body
      cap = ap (λ b. cond b t.caps.body t.caps.cost) (lt-ltb i n lt)

      by_cases : IsEntryPast (entry_cap t.caps n i) (row i).entries ⊎ (entry_cap t.caps n i < unsigned_abs (row i).right) ⊎ (weight_cap t.caps n i < unsigned_abs (row i).weight)
          → ((j : ℕ) × (j < length t.columns) × (t.caps.body < unsigned_abs (entry (multipliers n (row i)) (column_at t.columns j)))) ⊎ (t.caps.body < unsigned_abs (right_side (multipliers n (row i))))
      by_cases (inl (k, l, past)) =
          let e = at i (omega arith) k l in
          let none : (row i).weight *ℤ charge n i (column_at t.columns k) ≡ pos 0 = ap (λ z. z *ℤ charge n i (column_at t.columns k)) (h.weightless i lt) ∙ omega (arith, ints) in
          let same : get_or (row i).entries k (pos 0) ≡ entry (multipliers n (row i)) (column_at t.columns k) = omega (arith, ints) in
          inl (k, within_columns i (omega arith) k l, subst (λ z. t.caps.body < unsigned_abs z) same (subst (λ m. m < unsigned_abs (get_or (row i).entries k (pos 0))) cap past))
      by_cases (inr (inl past)) = inr (subst (λ z. t.caps.body < unsigned_abs z) (h.spelled i (omega arith)).right (subst (λ m. m < unsigned_abs (row i).right) cap past))
      by_cases (inr (inr past)) = absurd (let e = h.weightless i lt in omega (arith, ints))

  cost_past : IsRowPast t.caps n n (row n) → IsPast t.caps.body t.caps.cost n t.columns B
  unfolding IsRowPast IsEntryPast
  cost_past p = record { is_basis = basis_of; past = inr (inl ((row n).weight, prices_of n (row n), h.price_list, by_cases p)) }
    where
      no : nat_lt n n ≡ false
      no = le-ltb n n (omega arith)

      cap : entry_cap t.caps n n ≡ t.caps.cost
      cap = ap (λ b. cond b t.caps.body t.caps.cost) no

      weight : weight_cap t.caps n n ≡ t.caps.body
      weight = ap (λ b. cond b t.caps.cost t.caps.body) no

      by_cases : IsEntryPast (entry_cap t.caps n n) (row n).entries ⊎ (entry_cap t.caps n n < unsigned_abs (row n).right) ⊎ (weight_cap t.caps n n < unsigned_abs (row n).weight)
          → ((j : ℕ) × (j < length t.columns) × (t.caps.cost < unsigned_abs ((row n).weight *ℤ pos (cost_of (column_at t.columns j)) -ℤ entry (prices_of n (row n)) (column_at t.columns j))))
          ⊎ (t.caps.cost < unsigned_abs (right_side (prices_of n (row n)))) ⊎ (t.caps.body < unsigned_abs (row n).weight)
      by_cases (inl (k, l, past)) =
          let b = column_at t.columns k in
          let e = at n (omega arith) k l in
          let q : charge n n b ≡ pos (cost_of b) = ap (λ u. cond u (pos 0) (pos (cost_of b))) no in
          let f : (row n).weight *ℤ charge n n b ≡ (row n).weight *ℤ pos (cost_of b) = ap (λ z. (row n).weight *ℤ z) q in
          let g = total_neg (serves b) (multipliers n (row n)) in
          let same : get_or (row n).entries k (pos 0) ≡ (row n).weight *ℤ pos (cost_of b) -ℤ entry (prices_of n (row n)) b = omega (arith, ints) in
          inl (k, within_columns n (omega arith) k l, subst (λ z. t.caps.cost < unsigned_abs z) same (subst (λ m. m < unsigned_abs (get_or (row n).entries k (pos 0))) cap past))
      by_cases (inr (inl past)) =
          let e = (h.spelled n (omega arith)).right in
          let g = total_neg (λ c. true) (multipliers n (row n)) in
          let same : unsigned_abs (row n).right ≡ unsigned_abs (right_side (prices_of n (row n))) = omega (arith, ints) in
          inr (inl (subst (λ m. t.caps.cost < m) same (subst (λ m. m < unsigned_abs (row n).right) cap past)))
      by_cases (inr (inr past)) = inr (inr (subst (λ m. m < unsigned_abs (row n).weight) weight past))

  helper_past : IsRowPast t.caps n (n + 1) (row (n + 1)) → IsPast t.caps.body t.caps.cost n t.columns B
  unfolding IsRowPast IsEntryPast
  helper_past p = record { is_basis = basis_of; past = inr (inr (inl ((row (n + 1)).weight, multipliers n (row (n + 1)), h.helper_list, by_cases p))) }
    where
      no : nat_lt (n + 1) n ≡ false
      no = le-ltb (n + 1) n (omega arith)

      yes : nat_lt n (n + 1) ≡ true
      yes = lt-ltb n (n + 1) (omega arith)

      cap : entry_cap t.caps n (n + 1) ≡ t.caps.cost
      cap = ap (λ b. cond b t.caps.body t.caps.cost) no

      weight : weight_cap t.caps n (n + 1) ≡ t.caps.cost
      weight = ap (λ b. cond b t.caps.cost t.caps.body) yes

      by_cases : IsEntryPast (entry_cap t.caps n (n + 1)) (row (n + 1)).entries ⊎ (entry_cap t.caps n (n + 1) < unsigned_abs (row (n + 1)).right) ⊎ (weight_cap t.caps n (n + 1) < unsigned_abs (row (n + 1)).weight)
          → ((j : ℕ) × (j < length t.columns) × (t.caps.cost < unsigned_abs (entry (multipliers n (row (n + 1))) (column_at t.columns j))))
          ⊎ (t.caps.cost < unsigned_abs (right_side (multipliers n (row (n + 1))))) ⊎ (t.caps.cost < unsigned_abs (row (n + 1)).weight)
      by_cases (inl (k, l, past)) =
          let b = column_at t.columns k in
          let e = at (n + 1) (omega arith) k l in
          let q : charge n (n + 1) b ≡ pos 0 = ap (λ u. cond u (pos 0) (pos (cost_of b))) yes in
          let f : (row (n + 1)).weight *ℤ charge n (n + 1) b ≡ pos 0 = ap (λ z. (row (n + 1)).weight *ℤ z) q ∙ omega (arith, ints) in
          let same : get_or (row (n + 1)).entries k (pos 0) ≡ entry (multipliers n (row (n + 1))) b = omega (arith, ints) in
          inl (k, within_columns (n + 1) (omega arith) k l, subst (λ z. t.caps.cost < unsigned_abs z) same (subst (λ m. m < unsigned_abs (get_or (row (n + 1)).entries k (pos 0))) cap past))
      by_cases (inr (inl past)) = inr (inl (subst (λ z. t.caps.cost < unsigned_abs z) (h.spelled (n + 1) (omega arith)).right (subst (λ m. m < unsigned_abs (row (n + 1)).right) cap past)))
      by_cases (inr (inr past)) = inr (inr (subst (λ m. m < unsigned_abs (row (n + 1)).weight) weight past))

  pub is_past : (p : ℕ × ℕ) → first_past t ≡ Some p → IsPast t.caps.body t.caps.cost n t.columns B
  is_past p e = from_row found.0 (omega (arith, h.high, found.1)) (subst (λ i. IsRowPast t.caps n i (row found.0)) (let s : 0 + found.0 ≡ found.0 = omega arith in s) (found.2 (record { weight = pos 0; right = pos 0; entries = [] })))
    where
      found : SomePast t.caps n 0 t.rows
      found = past_rows t.caps n 0 t.rows p e

      from_row : (i : ℕ) → i < n + 2 → IsRowPast t.caps n i (row i) → IsPast t.caps.body t.caps.cost n t.columns B
      from_row i lt past = by_cases (cases_lt i n)
        where
          by_cases : (i < n) ⊎ (n ≤ i) → IsPast t.caps.body t.caps.cost n t.columns B
          by_cases (inl l) = body_past i l past
          by_cases (inr le) = further (same_or_not i n)
            where
              further : (i ≡ n) ⊎ (i ≢ n) → IsPast t.caps.body t.caps.cost n t.columns B
              further (inl s) = cost_past (subst (λ j. IsRowPast t.caps n j (row j)) s past)
              further (inr other) = helper_past (subst (λ j. IsRowPast t.caps n j (row j)) (let s : i ≡ n + 1 = omega arith in s) past)
