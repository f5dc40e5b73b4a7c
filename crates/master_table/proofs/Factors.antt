-- Whole factors that make the own entries of all body equations the same number.
use Rattle.std.proofs.Common.{◌≡◌, ◌∙◌, ℕ, zero, suc, ◌+◌, ◌<◌, arith, refl, sym, ap, subst, ℤ, pos, ◌*ℤ◌, ◌<ℤ◌, Bool, List, [], ◌∷◌, map, length, get_or}
use Rattle.std.proofs.lemmas.Int.{ints}
use Rattle.fleet_model.specs.Equations.{Column, column_at, entry, total}
use Rattle.fleet_model.specs.Basis.{IsBody}
use Rattle.fleet_model.proofs.Ring.{*ℤ_assoc, *ℤ_comm, *ℤ_pos}
use Rattle.master_table.specs.Expansion.{expansion}
use Rattle.master_table.proofs.Expansion.{expands}
use Rattle.master_table.proofs.Pivots.{IsRows}

-- ---- lists of some numbers
unfoldable pub gathered : {A : Type 0} → (ℕ → A) → ℕ → ℕ → List A
gathered f k zero = []
gathered f k (suc m) = f k ∷ gathered f (suc k) m

pub length_gathered : {A : Type 0} (f : ℕ → A) (k m : ℕ) → length (gathered f k m) ≡ m
unfolding gathered
length_gathered f k zero = refl
length_gathered f k (suc m) = ap suc (length_gathered f (suc k) m)

pub gathered_at : {A : Type 0} (f : ℕ → A) (k m i : ℕ) (d : A) → i < m → get_or (gathered f k m) i d ≡ f (k + i)
unfolding gathered
gathered_at f k zero i d lt = absurd (omega arith)
gathered_at f k (suc m) zero d lt = let e : k ≡ k + 0 = omega arith in ap f e
gathered_at f k (suc m) (suc i) d lt = let e : suc k + i ≡ k + suc i = omega arith in gathered_at f (suc k) m i d (omega arith) ∙ ap f e

-- ---- the product of some numbers, and that of all but one
pub product_of : List ℤ → ℤ
product_of [] = pos 1
product_of (o ∷ os) = o *ℤ product_of os

pub cofactors : List ℤ → List ℤ
cofactors [] = []
cofactors (o ∷ os) = product_of os ∷ map (λ z. o *ℤ z) (cofactors os)

length_times_all : (o : ℤ) (zs : List ℤ) → length (map (λ z. o *ℤ z) zs) ≡ length zs
length_times_all o [] = refl
length_times_all o (z ∷ zs) = ap suc (length_times_all o zs)

pub length_cofactors : (os : List ℤ) → length (cofactors os) ≡ length os
unfolding cofactors
length_cofactors [] = refl
length_cofactors (o ∷ os) = ap suc (length_times_all o (cofactors os) ∙ length_cofactors os)

times_at : (o : ℤ) (zs : List ℤ) (j : ℕ) → get_or (map (λ z. o *ℤ z) zs) j (pos 0) ≡ o *ℤ get_or zs j (pos 0)
times_at o [] zero = omega (arith, ints)
times_at o [] (suc j) = omega (arith, ints)
times_at o (z ∷ zs) zero = refl
times_at o (z ∷ zs) (suc j) = times_at o zs j

pub cofactor_at : (os : List ℤ) (j : ℕ) → j < length os → get_or (cofactors os) j (pos 0) *ℤ get_or os j (pos 0) ≡ product_of os
unfolding cofactors product_of
cofactor_at [] j lt = absurd (omega arith)
cofactor_at (o ∷ os) zero lt = *ℤ_comm (product_of os) o
cofactor_at (o ∷ os) (suc j) lt =
    let x = get_or os j (pos 0) in
    let k = get_or (cofactors os) j (pos 0) in
    ap (λ z. z *ℤ x) (times_at o (cofactors os) j) ∙ *ℤ_assoc o k x ∙ ap (λ z. o *ℤ z) (cofactor_at os j (omega arith))

pub product_above : (os : List ℤ) → ((j : ℕ) → j < length os → pos 0 <ℤ get_or os j (pos 0)) → pos 0 <ℤ product_of os
unfolding product_of
product_above [] h = omega (arith, ints)
product_above (o ∷ os) h = *ℤ_pos o (product_of os) (h 0 (omega arith)) (product_above os (λ j lt. h (suc j) (omega arith)))

pub cofactors_above : (os : List ℤ) → ((j : ℕ) → j < length os → pos 0 <ℤ get_or os j (pos 0)) → (j : ℕ) → j < length os → pos 0 <ℤ get_or (cofactors os) j (pos 0)
unfolding cofactors
cofactors_above [] h j lt = absurd (omega arith)
cofactors_above (o ∷ os) h zero lt = product_above os (λ j l. h (suc j) (omega arith))
cofactors_above (o ∷ os) h (suc j) lt =
    subst (λ z. pos 0 <ℤ z) (sym (times_at o (cofactors os) j)) (*ℤ_pos o (get_or (cofactors os) j (pos 0)) (h 0 (omega arith)) (cofactors_above os (λ i l. h (suc i) (omega arith)) j (omega arith)))

-- ---- the factors of a basis
module _ (n : ℕ) (basis : List Column) (f : ℕ → List ℤ) (is : IsRows n basis f) where
  abbrev own_at : ℕ → ℤ
  own_at i = entry (f i) (column_at basis i)

  abbrev rows_of : List (List ℤ)
  rows_of = gathered f 0 n

  abbrev factors : List ℤ
  factors = cofactors (gathered own_at 0 n)

  abbrev common : ℤ
  common = product_of (gathered own_at 0 n)

  row_is : (i : ℕ) → i < n → get_or (gathered f 0 n) i [] ≡ f i
  row_is i lt = let e : 0 + i ≡ i = omega arith in gathered_at f 0 n i [] lt ∙ ap f e

  own_is : (i : ℕ) → i < n → get_or (gathered own_at 0 n) i (pos 0) ≡ own_at i
  own_is i lt = let e : 0 + i ≡ i = omega arith in gathered_at own_at 0 n i (pos 0) lt ∙ ap own_at e

  owns_above : (j : ℕ) → j < length (gathered own_at 0 n) → pos 0 <ℤ get_or (gathered own_at 0 n) j (pos 0)
  owns_above j lt = let l = length_gathered own_at 0 n in subst (λ z. pos 0 <ℤ z) (sym (own_is j (omega arith))) (is.bodies j (omega arith)).own

  pub common_above : pos 0 <ℤ product_of (gathered own_at 0 n)
  common_above = product_above (gathered own_at 0 n) owns_above

  pub factor_above : (j : ℕ) → j < n → pos 0 <ℤ get_or (cofactors (gathered own_at 0 n)) j (pos 0)
  factor_above j lt = cofactors_above (gathered own_at 0 n) owns_above j (let l = length_gathered own_at 0 n in omega arith)

  pub length_factors : length (cofactors (gathered own_at 0 n)) ≡ n
  length_factors = length_cofactors (gathered own_at 0 n) ∙ length_gathered own_at 0 n

  pub factor_at : (j : ℕ) → j < n → get_or (cofactors (gathered own_at 0 n)) j (pos 0) *ℤ entry (f j) (column_at basis j) ≡ product_of (gathered own_at 0 n)
  factor_at j lt =
      ap (λ z. get_or (cofactors (gathered own_at 0 n)) j (pos 0) *ℤ z) (sym (own_is j lt))
      ∙ cofactor_at (gathered own_at 0 n) j (let l = length_gathered own_at 0 n in omega arith)

  rows_are : IsRows n basis (λ i. get_or (gathered f 0 n) i [])
  rows_are = record {
    count = is.count;
    bodies = λ i lt. subst (λ ms. IsBody n basis i ms) (sym (row_is i lt)) (is.bodies i lt);
    determined = is.determined;
  }

  -- each column is the combination of the basis that the rows say
  pub spreads : (ms : List ℤ) → length ms ≡ n → (s : ℕ → Bool) → expansion ms basis (cofactors (gathered own_at 0 n)) (gathered f 0 n) s ≡ product_of (gathered own_at 0 n) *ℤ total s ms
  spreads ms whole s =
      expands n basis (gathered f 0 n) (product_of (gathered own_at 0 n)) (cofactors (gathered own_at 0 n)) rows_are (length_gathered f 0 n) length_factors
      (λ j lt. ap (λ ms. get_or (cofactors (gathered own_at 0 n)) j (pos 0) *ℤ entry ms (column_at basis j)) (row_is j lt) ∙ factor_at j lt) ms whole s
