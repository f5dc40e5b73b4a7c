-- The denominator of the curves of a made instance is 136.
use Rattle.std.proofs.Common.{◌≡◌, ◌∙◌, ℕ, zero, ◌+◌, ◌*◌, ◌%◌, List, [], ◌∷◌, ap, arith, lit<, lit≤, refl, subst, sym}
use Rattle.std.proofs.Math.Nat.{dvd-mul_right_of_dvd, dvd_of_mul-dvd-mul_left, mul-add-mod_self_left}
use Rattle.std.proofs.lemmas.List.Elements.{All-cons, All-head, All-nil}
use Rattle.std.proofs.lemmas.Nat.Gcd.{dvd_of_mod-eq-zero, mod-eq-zero_of_dvd}
use Rattle.std.specs.Int.{◌∣◌}
use Rattle.std.specs.List.{All}
use Rattle.ev_model.specs.Curve.{IsDenominator, IsMultipleOfSlopes}
use Rattle.instance_reader.specs.Contents.{points_of}
use Rattle.instance_reader.specs.Curves.{all_points}
use Rattle.instance_maker.specs.MadeContents.{curve_made, curves_made}
use Rattle.std.specs.Prelude.{codes}

abbrev fast : List (ℕ × ℕ)
fast = points_of (curve_made (codes "fast") (0 ∷ 310 ∷ 390 ∷ 510 ∷ []))

abbrev slow : List (ℕ × ℕ)
slow = points_of (curve_made (codes "slow") (0 ∷ 1260 ∷ 1540 ∷ 2040 ∷ []))

fast_slopes : IsMultipleOfSlopes 1600 fast 136
fast_slopes =
    (λ below. dvd_of_mod-eq-zero 1360 refl, (λ below. dvd_of_mod-eq-zero 160 refl, (λ below. dvd_of_mod-eq-zero 80 refl, tt)))

slow_slopes : IsMultipleOfSlopes 1600 slow 136
slow_slopes =
    (λ below. dvd_of_mod-eq-zero 1360 refl, (λ below. dvd_of_mod-eq-zero 160 refl, (λ below. dvd_of_mod-eq-zero 80 refl, tt)))

-- 31 and 136 have no common divisor: 31 * 79 is 1 more than 18 * 136
divides : (e : ℕ) → 136 ∣ 31 * e → 136 ∣ e
divides e is =
    let none : (31 * e * 79) % 136 ≡ zero = mod-eq-zero_of_dvd 136 (dvd-mul_right_of_dvd 136 is 79) in
    let parts : 31 * e * 79 ≡ 136 * (18 * e) + e = omega arith in
    let rest : (136 * (18 * e) + e) % 136 ≡ e % 136 = mul-add-mod_self_left 136 (18 * e) e in
    dvd_of_mod-eq-zero 136 (sym rest ∙ ap (λ n. n % 136) (sym parts) ∙ none)

least_multiple : (e : ℕ) → All (λ points. IsMultipleOfSlopes 1600 points e) (fast ∷ slow ∷ []) → 136 ∣ e
least_multiple e all =
    let slope : 1360 ∣ e * 310 = (All-head (λ points. IsMultipleOfSlopes 1600 points e) fast (slow ∷ []) all).0 (lit< tt) in
    let tens : e * 310 ≡ 10 * (31 * e) = omega arith in
    divides e (dvd_of_mul-dvd-mul_left {k = 10} 136 {n = 31 * e} (lit< tt) (subst (λ n. 1360 ∣ n) tens slope))

pub denominator_is_136 : IsDenominator 1600 (all_points curves_made) 136
denominator_is_136 = record {
  some = lit≤ tt;
  multiple = All-cons (λ points. IsMultipleOfSlopes 1600 points 136) fast (slow ∷ []) fast_slopes
      (All-cons (λ points. IsMultipleOfSlopes 1600 points 136) slow [] slow_slopes (All-nil (λ points. IsMultipleOfSlopes 1600 points 136)));
  least = least_multiple;
}
