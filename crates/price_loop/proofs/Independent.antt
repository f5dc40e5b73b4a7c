-- No column of independent ones is without a customer, and no two of them are the same.
use Rattle.std.proofs.Common.{◌≡◌, ◌≢◌, ◌∙◌, ℕ, zero, suc, ◌+◌, ◌<◌, Bool, true, false, arith, refl, sym, ap, List, [], ◌∷◌, length, get_or, cond, ℤ, pos, negsuc, ◌+ℤ◌}
use Rattle.std.proofs.lemmas.Int.{ints}
use Rattle.fleet_model.specs.Basis.{AreIndependent, covering}
use Rattle.fleet_model.specs.Equations.{Column, column_at, serves}

-- one factor a column: all 0, or all 0 but one, or but two
abbrev zeros : List Column → List ℤ
zeros [] = []
zeros (b ∷ bs) = pos 0 ∷ zeros bs

abbrev only : ℕ → ℤ → List Column → List ℤ
only i z [] = []
only zero z (b ∷ bs) = z ∷ zeros bs
only (suc i) z (b ∷ bs) = pos 0 ∷ only i z bs

abbrev two : ℕ → ℕ → List Column → List ℤ
two i k [] = []
two zero k (b ∷ bs) = pos 1 ∷ only k (negsuc 0) bs
two (suc i) k (b ∷ bs) = pos 0 ∷ two i k bs

cond_zero : (t : Bool) → cond t (pos 0) (pos 0) ≡ pos 0
cond_zero true = refl
cond_zero false = refl

count_zeros : (bs : List Column) → length (zeros bs) ≡ length bs
count_zeros [] = refl
count_zeros (b ∷ bs) = ap suc (count_zeros bs)

count_only : (i : ℕ) (z : ℤ) (bs : List Column) → length (only i z bs) ≡ length bs
count_only i z [] = refl
count_only zero z (b ∷ bs) = ap suc (count_zeros bs)
count_only (suc i) z (b ∷ bs) = ap suc (count_only i z bs)

count_two : (i k : ℕ) (bs : List Column) → length (two i k bs) ≡ length bs
count_two i k [] = refl
count_two zero k (b ∷ bs) = ap suc (count_only k (negsuc 0) bs)
count_two (suc i) k (b ∷ bs) = ap suc (count_two i k bs)

zeros_cover : (bs : List Column) (c : ℕ) → covering (zeros bs) bs c ≡ pos 0
zeros_cover [] c = refl
zeros_cover (b ∷ bs) c = let first = cond_zero (serves b c) in let rest = zeros_cover bs c in omega (arith, ints, first, rest)

only_covers : (i : ℕ) (z : ℤ) (bs : List Column) (c : ℕ) → covering (only i z bs) bs c ≡ cond (serves (column_at bs i) c) z (pos 0)
only_covers i z [] c = refl
only_covers zero z (b ∷ bs) c = let rest = zeros_cover bs c in omega (arith, ints, rest)
only_covers (suc i) z (b ∷ bs) c = let first = cond_zero (serves b c) in let rest = only_covers i z bs c in omega (arith, ints, first, rest)

two_cover : (i k : ℕ) (bs : List Column) (c : ℕ) → covering (two i k bs) bs c ≡ cond (serves (column_at bs i) c) (pos 1) (pos 0) +ℤ cond (serves (column_at bs (i + suc k)) c) (negsuc 0) (pos 0)
two_cover i k [] c = refl
two_cover zero k (b ∷ bs) c =
    let place : 0 + suc k ≡ suc k = omega arith in
    let rest = only_covers k (negsuc 0) bs c in
    let there : cond (serves (column_at (b ∷ bs) (0 + suc k)) c) (negsuc 0) (pos 0) ≡ cond (serves (column_at bs k) c) (negsuc 0) (pos 0) = ap (λ j. cond (serves (column_at (b ∷ bs) j) c) (negsuc 0) (pos 0)) place in
    omega (arith, ints, rest, there)
two_cover (suc i) k (b ∷ bs) c =
    let place : suc i + suc k ≡ suc (i + suc k) = omega arith in
    let first = cond_zero (serves b c) in
    let rest = two_cover i k bs c in
    let there : cond (serves (column_at (b ∷ bs) (suc i + suc k)) c) (negsuc 0) (pos 0) ≡ cond (serves (column_at bs (i + suc k)) c) (negsuc 0) (pos 0) = ap (λ j. cond (serves (column_at (b ∷ bs) j) c) (negsuc 0) (pos 0)) place in
    omega (arith, ints, first, rest, there)

only_at : (i : ℕ) (z : ℤ) (bs : List Column) → i < length bs → get_or (only i z bs) i (pos 0) ≡ z
only_at i z [] less = absurd (omega arith)
only_at zero z (b ∷ bs) less = refl
only_at (suc i) z (b ∷ bs) less = only_at i z bs (omega (arith, less))

two_at : (i k : ℕ) (bs : List Column) → i < length bs → get_or (two i k bs) i (pos 0) ≡ pos 1
two_at i k [] less = absurd (omega arith)
two_at zero k (b ∷ bs) less = refl
two_at (suc i) k (b ∷ bs) less = two_at i k bs (omega (arith, less))

one_is_some : pos 1 ≡ pos 0 → ⊥
one_is_some e = absurd (omega (arith, ints, e))

module _ (n : ℕ) (bs : List Column) (is : AreIndependent n bs) where
  -- each column has a customer
  pub some_customer : (i : ℕ) → i < length bs → ((c : ℕ) → c < n → serves (column_at bs i) c ≡ false) → ⊥
  some_customer i less none =
      let zero_there = is (only i (pos 1) bs) (count_only i (pos 1) bs) (λ c small. only_covers i (pos 1) bs c ∙ ap (λ t. cond t (pos 1) (pos 0)) (none c small)) i in
      one_is_some (sym (only_at i (pos 1) bs less) ∙ zero_there)

  cancels : (t : Bool) → cond t (pos 1) (pos 0) +ℤ cond t (negsuc 0) (pos 0) ≡ pos 0
  cancels true = refl
  cancels false = refl

  -- two places have different columns
  pub columns_differ : (i k : ℕ) → i < length bs → column_at bs i ≢ column_at bs (i + suc k)
  columns_differ i k less same =
      let zero_there = is (two i k bs) (count_two i k bs) (λ c small.
      two_cover i k bs c
      ∙ ap (λ (b : Column). cond (serves (column_at bs i) c) (pos 1) (pos 0) +ℤ cond (serves b c) (negsuc 0) (pos 0)) (sym same)
      ∙ cancels (serves (column_at bs i) c)) i in
      one_is_some (sym (two_at i k bs less) ∙ zero_there)
