-- A number and a positive one, both divided by their greatest common divisor.
use Rattle.std.proofs.Common.{◌≡◌, ◌∙◌, ℕ, zero, suc, ◌*◌, ◌/◌, ◌<◌, ◌≤◌, ap, arith, subst, sym}
use Rattle.std.specs.Prelude.{ℤ, pos, negsuc, ◌*ℤ◌, int_div, neg_ℤ, unsigned_abs}
use Rattle.std.specs.Int.{IsGcd, ◌∣◌}
use Rattle.std.proofs.Math.IntN.{negsuc-*ℤ-pos, pos-*ℤ-pos, zero-*ℤ}
use Rattle.std.proofs.Math.Nat.{div-mul_cancel, dvd_of_mul-dvd-mul_right, eq-zero_of_zero-dvd, mul-dvd-mul_right, one-dvd, one-mul}
use Rattle.std.proofs.lemmas.Int.{unsigned_abs-mul}
use Rattle.std.proofs.lemmas.Nat.Gcd.{le_of_dvd}
use Rattle.report_lines.specs.Fractions.{IsLowest, IsReduced}

negated : (m d : ℕ) → neg_ℤ (pos m) *ℤ pos d ≡ neg_ℤ (pos (m * d))
negated zero d =
    let none : 0 * d ≡ 0 = omega arith in
    zero-*ℤ (pos d) ∙ ap (λ (m : ℕ). neg_ℤ (pos m)) (sym none)
negated (suc m) d = negsuc-*ℤ-pos m d

-- a quotient by a divisor is exact
exact_quotient : (z : ℤ) (d : ℕ) → d ∣ unsigned_abs z → int_div z (pos d) *ℤ pos d ≡ z
exact_quotient (pos n) d h = pos-*ℤ-pos (n / d) d ∙ ap (λ (m : ℕ). pos m) (div-mul_cancel d h)
exact_quotient (negsuc n) d h = negated (suc n / d) d ∙ ap (λ (m : ℕ). neg_ℤ (pos m)) (div-mul_cancel d h)

pub is_reduced : (sum : ℤ) (product d : ℕ) → IsGcd (unsigned_abs sum) product d → IsReduced sum product (int_div sum (pos d)) (product / d)
is_reduced sum product d gcd = record {
  divisor = d;
  greatest = gcd;
  above = sym (exact_quotient sum d gcd.0);
  below = sym (div-mul_cancel d gcd.1);
}

-- the quotients of two numbers by their greatest common divisor have none but 1
lowest : (a b x y g : ℕ) → 0 < g → a ≡ x * g → b ≡ y * g → IsGcd a b g → IsGcd x y 1
lowest a b x y g some above below gcd = (one-dvd x, one-dvd y, least)
  where
    least : (d : ℕ) → d ∣ x → d ∣ y → d ∣ 1
    least d one two =
        let first : d * g ∣ a = subst (λ (n : ℕ). d * g ∣ n) (sym above) (mul-dvd-mul_right d one g) in
        let second : d * g ∣ b = subst (λ (n : ℕ). d * g ∣ n) (sym below) (mul-dvd-mul_right d two g) in
        let both : d * g ∣ 1 * g = subst (λ (n : ℕ). d * g ∣ n) (sym (one-mul g)) (gcd.2 (d * g) first second) in
        dvd_of_mul-dvd-mul_right d some both

pub is_lowest : (sum : ℤ) (product : ℕ) (p : ℤ) (q : ℕ) → 1 ≤ product → (reduced : IsReduced sum product p q) → 1 ≤ reduced.divisor
    → IsLowest p q
is_lowest sum product p q some reduced divisor =
    let sizes : unsigned_abs sum ≡ unsigned_abs p * reduced.divisor =
    ap unsigned_abs reduced.above ∙ unsigned_abs-mul p (pos reduced.divisor) in (
      above_zero q reduced.below,
      lowest (unsigned_abs sum) product (unsigned_abs p) q reduced.divisor divisor sizes reduced.below reduced.greatest,
    )
  where
    above_zero : (q : ℕ) → product ≡ q * reduced.divisor → 1 ≤ q
    above_zero zero is = absurd (omega (arith, some, is))
    above_zero (suc q) is = omega arith

-- a divisor of a positive number is positive and no greater
pub divisor_fits : (a b g : ℕ) → 1 ≤ b → IsGcd a b g → g ≤ b
divisor_fits a b g some gcd = le_of_dvd some gcd.1

pub some_divisor : (a b g : ℕ) → 1 ≤ b → IsGcd a b g → 1 ≤ g
some_divisor a b zero some gcd = let none : b ≡ 0 = eq-zero_of_zero-dvd gcd.1 in absurd (omega (arith, some, none))
some_divisor a b (suc g) some gcd = omega arith

-- the fraction of the two quotients
pub divided_fraction : (whole : ℤ) (part divisor : ℕ) (p : ℤ) → p ≡ int_div whole (pos divisor) → IsGcd (unsigned_abs whole) part divisor → 1 ≤ part → 1 ≤ divisor
    → IsReduced whole part p (part / divisor) × IsLowest p (part / divisor)
divided_fraction whole part divisor p is gcd some positive =
    let reduced : IsReduced whole part p (part / divisor) =
    subst (λ (z : ℤ). IsReduced whole part z (part / divisor)) (sym is) (is_reduced whole part divisor gcd) in
    (reduced, is_lowest whole part p (part / divisor) some reduced (divisor_is whole part p (part / divisor) some reduced))
  where
    divisor_is : (whole : ℤ) (part : ℕ) (p : ℤ) (q : ℕ) → 1 ≤ part → (reduced : IsReduced whole part p q) → 1 ≤ reduced.divisor
    divisor_is whole part p q some reduced = some_divisor (unsigned_abs whole) part reduced.divisor some reduced.greatest
