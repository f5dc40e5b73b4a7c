-- The basis of a table within its caps is past them by its share weight alone.
use Rattle.std.proofs.Common.{◌≡◌, ◌∙◌, ℕ, suc, ◌+◌, ◌<◌, ◌≤◌, arith, refl, sym, ap, ℤ, pos, ◌+ℤ◌, ◌-ℤ◌, ◌*ℤ◌, unsigned_abs, List, [], ◌∷◌, length, get_or, true, false, cond, nat_lt, lt-ltb, le-ltb, ◌⊎◌, inl, inr}
use Rattle.std.proofs.lemmas.Int.{ints}
use Rattle.std.proofs.lemmas.List.{get_or-map}
use Rattle.fleet_model.specs.Equations.{Column, column_at, combined, cost_of, entry, help_of, right_side, route, serves}
use Rattle.fleet_model.specs.Basis.{IsDetermined, PaysLeast}
use Rattle.fleet_model.specs.Wide.{IsBodyPast, IsHelperListPast, IsPriceListPast, IsShareWeightPast}
use Rattle.fleet_model.proofs.Totals.{length-combined, total_combined}
use Rattle.fleet_model.proofs.Unique.{one_body}
use Rattle.master_table.specs.Tableau.{IsBasisPast, IsTableau, IsWithinCaps, Tableau, basis_columns, charge, entry_at, entry_cap, multipliers, prices_of, row_at, size, weight_cap}
use Rattle.master_table.proofs.Combinations.{spelled_length}
use Rattle.master_table.proofs.PastCaps.{basis_of}
use Rattle.master_table.proofs.CombinedRows.{total_neg}
use Rattle.master_table.specs.ShareWeight.{IsRowsWeight}
use Rattle.master_table.proofs.BasisShares.{weight_is}

-- ---- lists of least weight are determined
same_list : (xs ys : List ℤ) → length xs ≡ length ys → ((c : ℕ) → get_or (combined (pos 1) (pos 1) xs ys) c (pos 0) ≡ pos 0) → xs ≡ ys
same_list [] [] e h = refl
same_list [] (y ∷ ys) e h = absurd (omega arith)
same_list (x ∷ xs) [] e h = absurd (omega arith)
same_list (x ∷ xs) (y ∷ ys) e h =
    let first : pos 1 *ℤ x -ℤ pos 1 *ℤ y ≡ pos 0 = h 0 in
    let head : x ≡ y = omega (arith, ints) in
    let tail = same_list xs ys (omega arith) (λ c. h (suc c)) in
    cc

one_list : (worth : Column → ℤ) (n : ℕ) (basis : List Column) (w v : ℤ) (xs ys : List ℤ) → IsDetermined n basis → PaysLeast worth n basis w xs → PaysLeast worth n basis v ys → (w ≡ v) × (xs ≡ ys)
one_list worth n basis w v xs ys free a b = (same, same_list xs ys lengths (free (combined (pos 1) (pos 1) xs ys) (length-combined (pos 1) (pos 1) xs ys lengths ∙ a.list.whole) none))
  where
    same : w ≡ v
    same = let l = a.least v ys b.list in let r = b.least w xs a.list in omega (arith, ints)

    lengths : length xs ≡ length ys
    lengths = a.list.whole ∙ sym b.list.whole

    none : (j : ℕ) → j < n → entry (combined (pos 1) (pos 1) xs ys) (column_at basis j) ≡ pos 0
    none j lt =
        let c = column_at basis j in
        let t = total_combined (pos 1) (pos 1) (serves c) xs ys lengths in
        let l = a.list.pays j lt in
        let r = b.list.pays j lt in
        let e : w *ℤ worth c ≡ v *ℤ worth c = ap (λ z. z *ℤ worth c) same in
        omega (arith, ints)

-- ---- a table within its caps
module _ (t : Tableau) (h : IsTableau t) (w : IsWithinCaps t) where
  abbrev n : ℕ
  n = size t

  abbrev B : List Column
  B = basis_columns t

  entry_is : (i j : ℕ) → i < n + 2 → j < length t.columns → entry_at t i j ≡ (row_at t i).weight *ℤ charge n i (column_at t.columns j) +ℤ entry (multipliers n (row_at t i)) (column_at t.columns j)
  entry_is i j lt inside =
      ap (λ xs. get_or xs j (pos 0)) (h.spelled i lt).entries
      ∙ get_or-map (λ b. (row_at t i).weight *ℤ charge n i b +ℤ entry (multipliers n (row_at t i)) b) t.columns j (route [] 0) (pos 0) inside

  entry_small : (i j : ℕ) → i < n + 2 → j < length t.columns → unsigned_abs (entry_at t i j) ≤ entry_cap t.caps n i
  entry_small i j lt inside = (w i lt).entries j (pos 0) (let e = spelled_length n i t.columns (row_at t i) (h.spelled i lt) in omega arith)

  body_not : IsBodyPast t.caps.body n t.columns B → ⊥
  body_not (i, ms, lt, body, past) = by_cases past
    where
      is : ms ≡ multipliers n (row_at t i)
      is = one_body n B i ms (multipliers n (row_at t i)) lt h.determined body (h.bodies i lt)

      cap : entry_cap t.caps n i ≡ t.caps.body
      cap = ap (λ b. cond b t.caps.body t.caps.cost) (lt-ltb i n lt)

      by_cases : ((j : ℕ) × (j < length t.columns) × (t.caps.body < unsigned_abs (entry ms (column_at t.columns j)))) ⊎ (t.caps.body < unsigned_abs (right_side ms)) → ⊥
      by_cases (inl (j, inside, more)) =
          let e = entry_is i j (omega arith) inside in
          let none : (row_at t i).weight *ℤ charge n i (column_at t.columns j) ≡ pos 0 = ap (λ z. z *ℤ charge n i (column_at t.columns j)) (h.weightless i lt) ∙ omega (arith, ints) in
          let same = ap (λ xs. entry xs (column_at t.columns j)) is in
          let small = entry_small i j (omega arith) inside in
          let top = cap in
          omega (arith, ints)
      by_cases (inr more) =
          let e = (h.spelled i (omega arith)).right in
          let same = ap right_side is in
          let small = (w i (omega arith)).right in
          let top = cap in
          omega (arith, ints)

  prices_not : IsPriceListPast t.caps.body t.caps.cost n t.columns B → ⊥
  prices_not (v, prices, list, past) = by_cases past
    where
      both : (v ≡ (row_at t n).weight) × (prices ≡ prices_of n (row_at t n))
      both = one_list (λ b. pos (cost_of b)) n B v (row_at t n).weight prices (prices_of n (row_at t n)) h.determined list h.price_list

      no : nat_lt n n ≡ false
      no = le-ltb n n (omega arith)

      cap : entry_cap t.caps n n ≡ t.caps.cost
      cap = ap (λ b. cond b t.caps.body t.caps.cost) no

      weight : weight_cap t.caps n n ≡ t.caps.body
      weight = ap (λ b. cond b t.caps.cost t.caps.body) no

      by_cases : ((j : ℕ) × (j < length t.columns) × (t.caps.cost < unsigned_abs (v *ℤ pos (cost_of (column_at t.columns j)) -ℤ entry prices (column_at t.columns j))))
          ⊎ (t.caps.cost < unsigned_abs (right_side prices)) ⊎ (t.caps.body < unsigned_abs v) → ⊥
      by_cases (inl (j, inside, more)) =
          let b = column_at t.columns j in
          let e = entry_is n j (omega arith) inside in
          let f : (row_at t n).weight *ℤ charge n n b ≡ v *ℤ pos (cost_of b) = ap (λ u. (row_at t n).weight *ℤ cond u (pos 0) (pos (cost_of b))) no ∙ ap (λ z. z *ℤ pos (cost_of b)) (sym both.0) in
          let g = total_neg (serves b) (multipliers n (row_at t n)) in
          let same = ap (λ xs. entry xs b) both.1 in
          let small = entry_small n j (omega arith) inside in
          let top = cap in
          omega (arith, ints)
      by_cases (inr (inl more)) =
          let e = (h.spelled n (omega arith)).right in
          let g = total_neg (λ c. true) (multipliers n (row_at t n)) in
          let same = ap right_side both.1 in
          let small = (w n (omega arith)).right in
          let top = cap in
          omega (arith, ints)
      by_cases (inr (inr more)) =
          let same = both.0 in
          let small = (w n (omega arith)).weight in
          let top = weight in
          omega (arith, ints)

  numbers_not : IsHelperListPast t.caps.cost n t.columns B → ⊥
  numbers_not (v, numbers, list, past) = by_cases past
    where
      both : (v ≡ (row_at t (n + 1)).weight) × (numbers ≡ multipliers n (row_at t (n + 1)))
      both = one_list (λ b. pos (help_of b)) n B v (row_at t (n + 1)).weight numbers (multipliers n (row_at t (n + 1))) h.determined list h.helper_list

      yes : nat_lt n (n + 1) ≡ true
      yes = lt-ltb n (n + 1) (omega arith)

      cap : entry_cap t.caps n (n + 1) ≡ t.caps.cost
      cap = ap (λ b. cond b t.caps.body t.caps.cost) (le-ltb (n + 1) n (omega arith))

      weight : weight_cap t.caps n (n + 1) ≡ t.caps.cost
      weight = ap (λ b. cond b t.caps.cost t.caps.body) yes

      by_cases : ((j : ℕ) × (j < length t.columns) × (t.caps.cost < unsigned_abs (entry numbers (column_at t.columns j)))) ⊎ (t.caps.cost < unsigned_abs (right_side numbers)) ⊎ (t.caps.cost < unsigned_abs v) → ⊥
      by_cases (inl (j, inside, more)) =
          let b = column_at t.columns j in
          let e = entry_is (n + 1) j (omega arith) inside in
          let f : (row_at t (n + 1)).weight *ℤ charge n (n + 1) b ≡ pos 0 = ap (λ u. (row_at t (n + 1)).weight *ℤ cond u (pos 0) (pos (cost_of b))) yes ∙ omega (arith, ints) in
          let same = ap (λ xs. entry xs b) both.1 in
          let small = entry_small (n + 1) j (omega arith) inside in
          let top = cap in
          omega (arith, ints)
      by_cases (inr (inl more)) =
          let e = (h.spelled (n + 1) (omega arith)).right in
          let same = ap right_side both.1 in
          let small = (w (n + 1) (omega arith)).right in
          let top = cap in
          omega (arith, ints)
      by_cases (inr (inr more)) =
          let same = both.0 in
          let small = (w (n + 1) (omega arith)).weight in
          let top = weight in
          omega (arith, ints)

  pub not_past : (over : ℕ) → IsRowsWeight t (size t) over → over ≤ t.caps.body → IsBasisPast t → ⊥
  not_past over rows small p = by_cases p.past
    where
      by_cases : IsBodyPast t.caps.body n t.columns B ⊎ IsPriceListPast t.caps.body t.caps.cost n t.columns B ⊎ IsHelperListPast t.caps.cost n t.columns B ⊎ IsShareWeightPast t.caps.body n B → ⊥
      by_cases (inl past) = body_not past
      by_cases (inr (inl past)) = prices_not past
      by_cases (inr (inr (inl past))) = numbers_not past
      by_cases (inr (inr (inr (W, is, more)))) =
          let own = weight_is t h over rows in
          let le = is.least over own.some own.whole in
          omega arith

pub past_by_weight : (t : Tableau) → IsTableau t → IsShareWeightPast t.caps.body (size t) (basis_columns t) → IsBasisPast t
past_by_weight t h past = record { is_basis = basis_of t h; past = inr (inr (inr past)) }
