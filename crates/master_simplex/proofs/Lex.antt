-- The lexicographic rule: rows stay positive.
use Rattle.std.proofs.Common.{◌≡◌, ◌∙◌, zero, suc, arith, refl, sym, ap, subst, ℤ, pos, negsuc, ◌*ℤ◌, ◌<ℤ◌, List, [], ◌∷◌, map, length, ◌⊎◌, inl, inr}
use Rattle.std.proofs.lemmas.Int.{ints}
use Rattle.fleet_model.proofs.Ring.{*ℤ_pos}
use Rattle.fleet_model.proofs.Signs.{above_times, zero_times}
use Rattle.fleet_model.specs.Equations.{combined}
use Rattle.master_simplex.specs.Falling.{IsLexPositive}

-- ---- lists
-- a list with a positive multiple that is positive, and the other way round
pub lex_untimes : (k : ℤ) (zs : List ℤ) → pos 0 <ℤ k → IsLexPositive (map (λ z. k *ℤ z) zs) → IsLexPositive zs
lex_untimes k [] p h = h
lex_untimes k (z ∷ zs) p (inl above) = inl (above_times k z p above)
lex_untimes k (z ∷ zs) p (inr (here, later)) = inr (zero_times k z p here, lex_untimes k zs p later)

pub lex_times : (k : ℤ) (zs : List ℤ) → pos 0 <ℤ k → IsLexPositive zs → IsLexPositive (map (λ z. k *ℤ z) zs)
lex_times k [] p h = h
lex_times k (z ∷ zs) p (inl above) = inl (*ℤ_pos k z p above)
lex_times k (z ∷ zs) p (inr (here, later)) = inr (ap (λ x. k *ℤ x) here ∙ omega (arith, ints), lex_times k zs p later)

neg_product : (g y : ℤ) → g <ℤ pos 0 → pos 0 <ℤ y → (g *ℤ y) <ℤ pos 0
neg_product (negsuc g) (pos (suc y)) p q = omega (arith, ints)
neg_product (pos g) y p q = absurd (omega (arith, ints))
neg_product (negsuc g) (pos zero) p q = absurd (omega (arith, ints))
neg_product (negsuc g) (negsuc y) p q = absurd (omega (arith, ints))

-- f above 0 and g below it: f * xs - g * ys is positive where both lists are
lex_less : (f g : ℤ) (xs ys : List ℤ) → pos 0 <ℤ f → g <ℤ pos 0 → length xs ≡ length ys → IsLexPositive xs → IsLexPositive ys → IsLexPositive (combined f g xs ys)
lex_less f g [] ys p q e hx hy = hx
lex_less f g (x ∷ xs) [] p q e hx hy = hy
lex_less f g (x ∷ xs) (y ∷ ys) p q e (inl a) (inl b) = let l = *ℤ_pos f x p a in let m = neg_product g y q b in inl (omega (arith, ints))
lex_less f g (x ∷ xs) (y ∷ ys) p q e (inl a) (inr (b, later)) = let l = *ℤ_pos f x p a in let m : g *ℤ y ≡ pos 0 = ap (λ z. g *ℤ z) b ∙ omega (arith, ints) in inl (omega (arith, ints))
lex_less f g (x ∷ xs) (y ∷ ys) p q e (inr (a, later)) (inl b) = let l : f *ℤ x ≡ pos 0 = ap (λ z. f *ℤ z) a ∙ omega (arith, ints) in let m = neg_product g y q b in inl (omega (arith, ints))
lex_less f g (x ∷ xs) (y ∷ ys) p q e (inr (a, later)) (inr (b, after)) =
    let l : f *ℤ x ≡ pos 0 = ap (λ z. f *ℤ z) a ∙ omega (arith, ints) in
    let m : g *ℤ y ≡ pos 0 = ap (λ z. g *ℤ z) b ∙ omega (arith, ints) in
    inr (omega (arith, ints), lex_less f g xs ys p q (omega arith) later after)

lex_equal : (f : ℤ) (xs ys : List ℤ) → pos 0 <ℤ f → length xs ≡ length ys → IsLexPositive xs → IsLexPositive (combined f (pos 0) xs ys)
lex_equal f [] ys p e hx = hx
lex_equal f (x ∷ xs) [] p e hx = absurd (omega arith)
lex_equal f (x ∷ xs) (y ∷ ys) p e (inl a) = let l = *ℤ_pos f x p a in inl (omega (arith, ints))
lex_equal f (x ∷ xs) (y ∷ ys) p e (inr (a, later)) = let l : f *ℤ x ≡ pos 0 = ap (λ z. f *ℤ z) a ∙ omega (arith, ints) in inr (omega (arith, ints), lex_equal f xs ys p (omega arith) later)

pub by_sign : (z : ℤ) → (z <ℤ pos 0) ⊎ (z ≡ pos 0) ⊎ (pos 0 <ℤ z)
by_sign (pos zero) = inr (inl refl)
by_sign (pos (suc n)) = inr (inr (omega (arith, ints)))
by_sign (negsuc n) = inl (omega (arith, ints))

-- what the choice of the row by the least ratio gives: each other row stays positive
pub stays_positive : (k f g : ℤ) (xs ts ys : List ℤ) → pos 0 <ℤ k → pos 0 <ℤ f → length xs ≡ length ts → map (λ z. k *ℤ z) ys ≡ combined f g xs ts
    → IsLexPositive xs → IsLexPositive ts → (pos 0 <ℤ g → IsLexPositive (combined f g xs ts)) → IsLexPositive ys
stays_positive k f g xs ts ys some above lengths same in_xs in_ts least = lex_untimes k ys some (subst IsLexPositive (sym same) (by_cases (by_sign g)))
  where
    by_cases : (g <ℤ pos 0) ⊎ (g ≡ pos 0) ⊎ (pos 0 <ℤ g) → IsLexPositive (combined f g xs ts)
    by_cases (inl below) = lex_less f g xs ts above below lengths in_xs in_ts
    by_cases (inr (inl nothing)) = subst (λ x. IsLexPositive (combined f x xs ts)) (sym nothing) (lex_equal f xs ts above lengths in_xs)
    by_cases (inr (inr more)) = least more
