-- A column that lets the row of a phase fall has an entry above 0.
use Rattle.std.proofs.Common.{◌≡◌, ◌∙◌, ℕ, zero, suc, ◌+◌, ◌<◌, ◌≤◌, arith, refl, sym, ap, subst, ℤ, pos, negsuc, neg_ℤ, ◌+ℤ◌, ◌*ℤ◌, ◌<ℤ◌, ◌≤ℤ◌, Bool, true, false, cond, nat_lt, lt-ltb, le-ltb, List, [], ◌∷◌, map, length, get_or, ◌⊎◌, inl, inr}
use Rattle.std.proofs.lemmas.Int.{ints}
use Rattle.std.proofs.lemmas.List.{get_or-map}
use Rattle.fleet_model.specs.Equations.{Column, column_at, cost_of, entry, route, serves, total, total_from}
use Rattle.fleet_model.proofs.Ring.{*ℤ_pos}
use Rattle.master_table.specs.Tableau.{IsTableau, Tableau, basis_columns, charge, entry_at, multipliers, row_at, size}
use Rattle.master_table.proofs.PastCaps.{table_basis}
use Rattle.master_table.specs.Expansion.{expansion}
use Rattle.master_simplex.specs.Phase.{gain}
use Rattle.master_simplex.specs.declared.phase.Goal.{Goal}
use Rattle.master_simplex.specs.declared.phase.Goal.TheVariants.{Helpers, Cost}
use Rattle.master_simplex.proofs.Lex.{by_sign}
use Rattle.master_table.proofs.Bases.{body_at}
use Rattle.master_table.proofs.Factors.{cofactors, common_above, factor_above, gathered, gathered_at, length_factors, length_gathered, product_of, spreads}

-- ---- a combination of rows without an entry above 0 has none above 0
product_not_above : (a z : ℤ) → pos 0 ≤ℤ a → z ≤ℤ pos 0 → (a *ℤ z) ≤ℤ pos 0
product_not_above (pos a) (pos zero) p q = omega (arith, ints)
product_not_above (pos a) (pos (suc z)) p q = absurd (omega (arith, ints))
product_not_above (pos a) (negsuc z) p q = omega (arith, ints)
product_not_above (negsuc a) z p q = absurd (omega (arith, ints))

product_not_below : (k e : ℤ) → pos 0 <ℤ k → pos 0 ≤ℤ e → pos 0 ≤ℤ (k *ℤ e)
product_not_below (pos k) (pos e) p q = omega (arith, ints)
product_not_below (negsuc k) e p q = absurd (omega (arith, ints))
product_not_below (pos k) (negsuc e) p q = absurd (omega (arith, ints))

expansion_not_above : (ms : List ℤ) (basis : List Column) (ks : List ℤ) (rows : List (List ℤ)) (s : ℕ → Bool) → ((j : ℕ) → j < length ks → pos 0 <ℤ get_or ks j (pos 0)) → ((b : Column) → pos 0 ≤ℤ entry ms b)
    → ((j : ℕ) → j < length rows → total s (get_or rows j []) ≤ℤ pos 0) → expansion ms basis ks rows s ≤ℤ pos 0
expansion_not_above ms [] ks rows s p q h = omega (arith, ints)
expansion_not_above ms (b ∷ bs) [] rows s p q h = omega (arith, ints)
expansion_not_above ms (b ∷ bs) (k ∷ ks) [] s p q h = omega (arith, ints)
expansion_not_above ms (b ∷ bs) (k ∷ ks) (row ∷ rows) s p q h =
    let here = product_not_above (k *ℤ entry ms b) (total s row) (product_not_below k (entry ms b) (p 0 (omega arith)) (q b)) (h 0 (omega arith)) in
    let rest = expansion_not_above ms bs ks rows s (λ j lt. p (suc j) (omega arith)) q (λ j lt. h (suc j) (omega arith)) in
    omega (arith, ints)

-- ---- the number of customers
pub ones : ℕ → List ℤ
ones zero = []
ones (suc n) = pos 1 ∷ ones n

pub length_ones : (n : ℕ) → length (ones n) ≡ n
unfolding ones
length_ones zero = refl
length_ones (suc n) = ap suc (length_ones n)

one_or_none : (b : Bool) → pos 0 ≤ℤ cond b (pos 1) (pos 0)
one_or_none true = omega (arith, ints)
one_or_none false = omega (arith, ints)

count_from : (s : ℕ → Bool) (c n : ℕ) → pos 0 ≤ℤ total_from s c (ones n)
unfolding ones
count_from s c zero = omega (arith, ints)
count_from s c (suc n) = let here = one_or_none (s c) in let rest = count_from s (suc c) n in omega (arith, ints)

not_chosen : (b : Bool) (m : ℤ) → cond b (pos 1) (pos 0) ≡ pos 0 → cond b m (pos 0) ≡ pos 0
not_chosen true m e = absurd (omega (arith, ints))
not_chosen false m e = refl

none_from : (s : ℕ → Bool) (c : ℕ) (ms : List ℤ) → total_from s c (ones (length ms)) ≡ pos 0 → total_from s c ms ≡ pos 0
unfolding ones
none_from s c [] e = refl
none_from s c (m ∷ ms) e =
    let at_least = count_from s (suc c) (length ms) in
    let one = one_or_none (s c) in
    let here = not_chosen (s c) m (omega (arith, ints)) in
    let rest = none_from s (suc c) ms (omega (arith, ints)) in
    omega (arith, ints)

-- ---- a column that lets the row of a phase fall
module _ (t : Tableau) (h : IsTableau t) (col : ℕ) (added : size t ≤ col) (inside : col < length t.columns) where
  abbrev n2 : ℕ
  n2 = size t

  abbrev b : Column
  b = column_at t.columns col

  pub entry_is : (i : ℕ) → i < size t + 2 → entry_at t i col ≡ (row_at t i).weight *ℤ charge (size t) i b +ℤ entry (multipliers (size t) (row_at t i)) b
  entry_is i lt =
      ap (λ xs. get_or xs col (pos 0)) (h.spelled i lt).entries
      ∙ get_or-map (λ b. (row_at t i).weight *ℤ charge (size t) i b +ℤ entry (multipliers (size t) (row_at t i)) b) t.columns col (route [] 0) (pos 0) inside

  numbers_long : length (multipliers (size t) (row_at t (size t + 1))) ≡ size t
  numbers_long = h.helper_list.list.whole

  prices_long : length (multipliers (size t) (row_at t (size t))) ≡ size t
  prices_long = sym (length_neg_all (multipliers (size t) (row_at t (size t)))) ∙ h.price_list.list.whole
    where
      length_neg_all : (zs : List ℤ) → length (map neg_ℤ zs) ≡ length zs
      length_neg_all [] = refl
      length_neg_all (z ∷ zs) = ap suc (length_neg_all zs)

  none_of : (ms : List ℤ) → length ms ≡ size t → total (serves b) (ones (size t)) ≡ pos 0 → entry ms b ≡ pos 0
  none_of ms whole e = none_from (serves b) 0 ms (ap (λ k. total (serves b) (ones k)) whole ∙ e)

  no_gain : (goal : Goal) → total (serves b) (ones (size t)) ≡ pos 0 → gain goal t col ≤ℤ pos 0
  no_gain Helpers e =
      let v = (row_at t (size t + 1)).weight in
      let is = entry_is (size t + 1) (omega arith) in
      let none = none_of (multipliers (size t) (row_at t (size t + 1))) numbers_long e in
      let q : charge (size t) (size t + 1) b ≡ pos 0 = ap (λ u. cond u (pos 0) (pos (cost_of b))) (lt-ltb (size t) (size t + 1) (omega arith)) in
      let f : v *ℤ charge (size t) (size t + 1) b ≡ pos 0 = ap (λ z. v *ℤ z) q ∙ omega (arith, ints) in
      let g : cond (nat_lt col (size t)) v (pos 0) ≡ pos 0 = ap (λ u. cond u v (pos 0)) (le-ltb col (size t) added) in
      omega (arith, ints)
  no_gain Cost e =
      let w = (row_at t (size t)).weight in
      let is = entry_is (size t) (omega arith) in
      let none = none_of (multipliers (size t) (row_at t (size t))) prices_long e in
      let q : charge (size t) (size t) b ≡ pos (cost_of b) = ap (λ u. cond u (pos 0) (pos (cost_of b))) (le-ltb (size t) (size t) (omega arith)) in
      let f : w *ℤ charge (size t) (size t) b ≡ w *ℤ pos (cost_of b) = ap (λ z. w *ℤ z) q in
      let g = product_not_below w (pos (cost_of b)) h.price_list.list.some (omega (arith, ints)) in
      omega (arith, ints)

  has_customer : (goal : Goal) → pos 0 <ℤ gain goal t col → pos 0 <ℤ total (serves b) (ones (size t))
  has_customer goal more = by_cases (by_sign (total (serves b) (ones (size t))))
    where
      by_cases : (total (serves b) (ones (size t)) <ℤ pos 0) ⊎ (total (serves b) (ones (size t)) ≡ pos 0) ⊎ (pos 0 <ℤ total (serves b) (ones (size t))) → pos 0 <ℤ total (serves b) (ones (size t))
      by_cases (inl below) = absurd (let e = count_from (serves b) 0 (size t) in omega (arith, ints))
      by_cases (inr (inl nothing)) = absurd (let e = no_gain goal nothing in omega (arith, ints))
      by_cases (inr (inr above)) = above

  -- some row has an entry above 0 there
  pub leaves_some : (goal : Goal) → pos 0 <ℤ gain goal t col → ((i : ℕ) → i < size t → entry_at t i col ≤ℤ pos 0) → ⊥
  leaves_some goal more none =
      let f : ℕ → List ℤ = λ i. multipliers (size t) (row_at t i) in
      let is = table_basis t h in
      let all = spreads (size t) (basis_columns t) (λ i. multipliers (size t) (row_at t i)) is (ones (size t)) (length_ones (size t)) (serves b) in
      let product = *ℤ_pos (product_of (gathered (λ i. entry (multipliers (size t) (row_at t i)) (column_at (basis_columns t) i)) 0 (size t))) (total (serves b) (ones (size t)))
      (common_above (size t) (basis_columns t) (λ i. multipliers (size t) (row_at t i)) is) (has_customer goal more) in
      let not_above = expansion_not_above (ones (size t)) (basis_columns t) (cofactors (gathered (λ i. entry (multipliers (size t) (row_at t i)) (column_at (basis_columns t) i)) 0 (size t)))
      (gathered (λ i. multipliers (size t) (row_at t i)) 0 (size t)) (serves b)
      (λ j lt. factor_above (size t) (basis_columns t) (λ i. multipliers (size t) (row_at t i)) is j (let l = length_factors (size t) (basis_columns t) (λ i. multipliers (size t) (row_at t i)) is in omega arith))
      (λ c. count_from (serves c) 0 (size t))
      (λ j lt. row_none j (let l = length_gathered (λ i. multipliers (size t) (row_at t i)) 0 (size t) in omega arith)) in
      omega (arith, ints)
    where
      row_none : (j : ℕ) → j < size t → total (serves b) (get_or (gathered (λ i. multipliers (size t) (row_at t i)) 0 (size t)) j []) ≤ℤ pos 0
      row_none j lt =
          let e : 0 + j ≡ j = omega arith in
          let is = gathered_at (λ i. multipliers (size t) (row_at t i)) 0 (size t) j [] lt ∙ ap (λ i. multipliers (size t) (row_at t i)) e in
          subst (λ ms. total (serves b) ms ≤ℤ pos 0) (sym is) (subst (λ z. z ≤ℤ pos 0) (body_at t h j col lt inside) (none j lt))
