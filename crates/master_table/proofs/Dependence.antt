-- Columns that depend on others, and first columns of independent ones.
use Rattle.std.proofs.Common.{◌≡◌, ◌∙◌, ℕ, zero, suc, ◌+◌, ◌<◌, ◌≤◌, arith, refl, sym, ap, ℤ, pos, neg_ℤ, ◌+ℤ◌, ◌*ℤ◌, Bool, true, false, cond, List, [], ◌∷◌, ◌++◌, length, get_or, take, length-append, ◌⊎◌, inl, inr}
use Rattle.std.proofs.lemmas.Int.{ints}
use Rattle.std.proofs.lemmas.Bool.{cases_lt}
use Rattle.std.proofs.lemmas.List.{get_or_append_left, get_or_at}
use Rattle.fleet_model.specs.Equations.{Column, column_at, entry, serves, total}
use Rattle.fleet_model.specs.Basis.{AreIndependent, covering}
use Rattle.master_table.proofs.Pivots.{IsRows}
use Rattle.master_table.specs.Expansion.{expansion}
use Rattle.master_table.proofs.Factors.{cofactors, common_above, gathered, gathered_at, length_factors, length_gathered, product_of, spreads}
use Rattle.master_table.proofs.Units.{one_at, total_unit}

-- ---- first columns
zeros : ℕ → List ℤ
zeros zero = []
zeros (suc n) = pos 0 ∷ zeros n

length_zeros : (n : ℕ) → length (zeros n) ≡ n
unfolding zeros
length_zeros zero = refl
length_zeros (suc n) = ap suc (length_zeros n)

covering_zeros : (n : ℕ) (columns : List Column) (c : ℕ) → covering (zeros n) columns c ≡ pos 0
unfolding zeros
covering_zeros zero columns c = refl
covering_zeros (suc n) [] c = refl
covering_zeros (suc n) (b ∷ bs) c = let rest = covering_zeros n bs c in let here = nothing (serves b c) in omega (arith, ints)
  where
    nothing : (t : Bool) → cond t (pos 0) (pos 0) ≡ pos 0
    nothing true = refl
    nothing false = refl

covering_padded : (ks : List ℤ) (xs ys : List Column) (c : ℕ) → length ks ≡ length xs → covering (ks ++ zeros (length ys)) (xs ++ ys) c ≡ covering ks xs c
covering_padded [] [] ys c e = covering_zeros (length ys) ys c
covering_padded [] (x ∷ xs) ys c e = absurd (omega arith)
covering_padded (k ∷ ks) [] ys c e = absurd (omega arith)
covering_padded (k ∷ ks) (x ∷ xs) ys c e = ap (λ z. cond (serves x c) k (pos 0) +ℤ z) (covering_padded ks xs ys c (omega arith))

past_end : (ks : List ℤ) (j : ℕ) → length ks ≤ j → get_or ks j (pos 0) ≡ pos 0
past_end [] zero le = refl
past_end [] (suc j) le = refl
past_end (k ∷ ks) zero le = absurd (omega arith)
past_end (k ∷ ks) (suc j) le = past_end ks j (omega arith)

pub first_independent : (n : ℕ) (xs ys : List Column) → AreIndependent n (xs ++ ys) → AreIndependent n xs
first_independent n xs ys h ks whole none j = by_cases (cases_lt j (length ks))
  where
    long : length (ks ++ zeros (length ys)) ≡ length (xs ++ ys)
    long = let a = length-append ks (zeros (length ys)) in let b = length-append xs ys in let z = length_zeros (length ys) in omega arith

    by_cases : (j < length ks) ⊎ (length ks ≤ j) → get_or ks j (pos 0) ≡ pos 0
    by_cases (inl lt) = sym (get_or_append_left ks (zeros (length ys)) (pos 0) j lt) ∙ h (ks ++ zeros (length ys)) long (λ c lc. covering_padded ks xs ys c whole ∙ none c lc) j
    by_cases (inr le) = past_end ks j le

-- ---- a column that is a combination of the first columns of a basis
scaled : List ℤ → List (List ℤ) → (ℕ → Bool) → List ℤ
scaled [] rows s = []
scaled (k ∷ ks) [] s = []
scaled (k ∷ ks) (row ∷ rows) s = (k *ℤ total s row) ∷ scaled ks rows s

length_scaled : (ks : List ℤ) (rows : List (List ℤ)) (s : ℕ → Bool) → length ks ≡ length rows → length (scaled ks rows s) ≡ length ks
unfolding scaled
length_scaled [] rows s e = refl
length_scaled (k ∷ ks) [] s e = absurd (omega arith)
length_scaled (k ∷ ks) (row ∷ rows) s e = ap suc (length_scaled ks rows s (omega arith))

scaled_none : (ks : List ℤ) (rows : List (List ℤ)) (s : ℕ → Bool) (j : ℕ) → j < length rows → total s (get_or rows j []) ≡ pos 0 → get_or (scaled ks rows s) j (pos 0) ≡ pos 0
unfolding scaled
scaled_none [] rows s zero lt e = refl
scaled_none [] rows s (suc j) lt e = refl
scaled_none (k ∷ ks) [] s j lt e = absurd (omega arith)
scaled_none (k ∷ ks) (row ∷ rows) s zero lt e = ap (λ z. k *ℤ z) e ∙ omega (arith, ints)
scaled_none (k ∷ ks) (row ∷ rows) s (suc j) lt e = scaled_none ks rows s j (omega arith) e

-- the unit of a customer expands to how often the basis has the customer
scaled_covers : (ms : List ℤ) (c : ℕ) (basis : List Column) (ks : List ℤ) (rows : List (List ℤ)) (s : ℕ → Bool) → ((b : Column) → entry ms b ≡ cond (serves b c) (pos 1) (pos 0))
    → expansion ms basis ks rows s ≡ covering (scaled ks rows s) basis c
unfolding scaled
scaled_covers ms c [] [] rows s h = refl
scaled_covers ms c [] (k ∷ ks) [] s h = refl
scaled_covers ms c [] (k ∷ ks) (row ∷ rows) s h = refl
scaled_covers ms c (b ∷ bs) [] rows s h = refl
scaled_covers ms c (b ∷ bs) (k ∷ ks) [] s h = refl
scaled_covers ms c (b ∷ bs) (k ∷ ks) (row ∷ rows) s h =
    let rest = scaled_covers ms c bs ks rows s h in
    let here = ap (λ z. (k *ℤ z) *ℤ total s row) (h b) ∙ chosen (serves b c) k (total s row) in
    omega (arith, ints)
  where
    chosen : (t : Bool) (k z : ℤ) → (k *ℤ cond t (pos 1) (pos 0)) *ℤ z ≡ cond t (k *ℤ z) (pos 0)
    chosen true k z = let e : k *ℤ pos 1 ≡ k = omega (arith, ints) in ap (λ x. x *ℤ z) e
    chosen false k z = let e : k *ℤ pos 0 ≡ pos 0 = omega (arith, ints) in ap (λ x. x *ℤ z) e ∙ omega (arith, ints)

covering_nothing : (zs : List ℤ) (bs : List Column) (c : ℕ) → ((j : ℕ) → get_or zs j (pos 0) ≡ pos 0) → covering zs bs c ≡ pos 0
covering_nothing [] bs c h = refl
covering_nothing (z ∷ zs) [] c h = refl
covering_nothing (z ∷ zs) (b ∷ bs) c h =
    let rest = covering_nothing zs bs c (λ j. h (suc j)) in
    let here = ap (λ x. cond (serves b c) x (pos 0)) (h 0) ∙ nothing (serves b c) in
    omega (arith, ints)
  where
    nothing : (t : Bool) → cond t (pos 0) (pos 0) ≡ pos 0
    nothing true = refl
    nothing false = refl

-- with the column behind the first columns, as often as the last number says
covering_last : (zs : List ℤ) (front back : List Column) (z : ℤ) (b : Column) (c : ℕ) → length front ≤ length zs → ((j : ℕ) → length front ≤ j → get_or zs j (pos 0) ≡ pos 0)
    → covering (take (length front) zs ++ z ∷ []) (front ++ b ∷ []) c ≡ covering zs (front ++ back) c +ℤ cond (serves b c) z (pos 0)
covering_last zs [] back z b c le h = let e = covering_nothing zs back c (λ j. h j (omega arith)) in omega (arith, ints)
covering_last [] (f ∷ fs) back z b c le h = absurd (omega arith)
covering_last (x ∷ xs) (f ∷ fs) back z b c le h =
    let rest = covering_last xs fs back z b c (omega arith) (λ j l. h (suc j) (omega arith)) in
    omega (arith, ints)

length_front : (m : ℕ) (zs : List ℤ) → m ≤ length zs → length (take m zs) ≡ m
length_front zero zs le = refl
length_front (suc m) [] le = absurd (omega arith)
length_front (suc m) (z ∷ zs) le = ap suc (length_front m zs (omega arith))

-- where only first columns of a basis have something of the column, it depends on these
module _ (n : ℕ) (front back : List Column) (rows : ℕ → List ℤ) (is : IsRows n (front ++ back) rows) (col : Column) (none : (j : ℕ) → length front ≤ j → j < n → entry (rows j) col ≡ pos 0) where
  abbrev own : ℕ → ℤ
  own i = entry (rows i) (column_at (front ++ back) i)

  abbrev p : ℤ
  p = product_of (gathered own 0 n)

  abbrev zs : List ℤ
  zs = scaled (cofactors (gathered own 0 n)) (gathered rows 0 n) (serves col)

  length_zs : length zs ≡ n
  length_zs = length_scaled (cofactors (gathered own 0 n)) (gathered rows 0 n) (serves col) (length_factors n (front ++ back) rows is ∙ sym (length_gathered rows 0 n)) ∙ length_factors n (front ++ back) rows is

  enough : length front ≤ length zs
  enough = let a = length-append front back in let c = is.count in let l = length_zs in omega arith

  rest_none : (j : ℕ) → length front ≤ j → get_or zs j (pos 0) ≡ pos 0
  rest_none j le = by_cases (cases_lt j n)
    where
      by_cases : (j < n) ⊎ (n ≤ j) → get_or zs j (pos 0) ≡ pos 0
      by_cases (inl lt) =
          let e : 0 + j ≡ j = omega arith in
          let row = gathered_at rows 0 n j [] lt ∙ ap rows e in
          scaled_none (cofactors (gathered own 0 n)) (gathered rows 0 n) (serves col) j (let l = length_gathered rows 0 n in omega arith) (ap (total (serves col)) row ∙ none j le lt)
      by_cases (inr past) = past_end zs j (let l = length_zs in omega arith)

  covered : (c : ℕ) → c < n → covering (take (length front) zs ++ neg_ℤ p ∷ []) (front ++ col ∷ []) c ≡ pos 0
  covered c lt =
      let spread = spreads n (front ++ back) rows is (gathered (one_at c) 0 n) (length_gathered (one_at c) 0 n) (serves col) in
      let cover = scaled_covers (gathered (one_at c) 0 n) c (front ++ back) (cofactors (gathered own 0 n)) (gathered rows 0 n) (serves col) (λ b. total_unit (serves b) n c lt) in
      let one = ap (λ z. p *ℤ z) (total_unit (serves col) n c lt) in
      let last = covering_last zs front back (neg_ℤ p) col c enough rest_none in
      let both = cancels (serves col c) p in
      omega (arith, ints)
    where
      cancels : (t : Bool) (x : ℤ) → x *ℤ cond t (pos 1) (pos 0) +ℤ cond t (neg_ℤ x) (pos 0) ≡ pos 0
      cancels true x = omega (arith, ints)
      cancels false x = omega (arith, ints)

  pub depends : AreIndependent n (front ++ col ∷ []) → ⊥
  depends h =
      let l = length_front (length front) zs enough in
      let a = length-append (take (length front) zs) (neg_ℤ p ∷ []) in
      let b = length-append front (col ∷ []) in
      let zero = h (take (length front) zs ++ neg_ℤ p ∷ []) (omega arith) covered (length front) in
      let is_last = get_or_at (take (length front) zs) (neg_ℤ p) [] (pos 0) (length front) l in
      let above = common_above n (front ++ back) rows is in
      omega (arith, ints)
