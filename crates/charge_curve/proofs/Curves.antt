-- The denominator of several curves.
use Rattle.std.proofs.Common.{◌≡◌, ◌↔◌, ℕ, zero, suc, ◌*◌, ◌<◌, ◌≤◌, List, [], ◌∷◌, length, drop, sym, subst, arith}
use Rattle.std.specs.Int.{◌∣◌}
use Rattle.std.specs.List.{All}
use Rattle.std.proofs.Math.Nat.{dvd-mul_right}
use Rattle.std.proofs.lemmas.Nat.Gcd.{dvd_antisymm}
use Rattle.std.proofs.lemmas.List.Elements.{All-cons, All-head, All-nil, All-tail}
use Rattle.ev_model.specs.Curve.{IsDenominator, IsMultipleOfSlopes}
use Rattle.charge_curve.specs.CutCurve.{CutCurve, IsAccepted, points_of}
use Rattle.charge_curve.specs.Multiples.{AreMultiples, IsCommonDenominator, IsMultipleOfAll, IsPast}
use Rattle.charge_curve.proofs.Denominators.{slopes_denominator}

pub one_divides : (n : ℕ) → 1 ∣ n
one_divides n = let same : 1 * n ≡ n = omega arith in subst (λ x. 1 ∣ x) same (dvd-mul_right 1 n)

pub divides_itself : (n : ℕ) → n ∣ n
divides_itself n = let same : n * 1 ≡ n = omega arith in subst (λ x. n ∣ x) same (dvd-mul_right n 1)

-- the same, where all curves are cut at the same full battery
multiples : (full : ℕ) (curves : List CutCurve) (e : ℕ) → All (λ c. c.full ≡ full) curves →
    IsMultipleOfAll curves e ↔ All (λ points. IsMultipleOfSlopes full points e) (points_of curves)
multiples full [] e same = (λ _. All-nil (λ points. IsMultipleOfSlopes full points e), λ _. tt)
multiples full (c ∷ cs) e same =
    let here : c.full ≡ full = All-head (λ (x : CutCurve). x.full ≡ full) c cs same in
    let rest = multiples full cs e (All-tail (λ (x : CutCurve). x.full ≡ full) c cs same) in
    let P : List (ℕ × ℕ) → Type 0 = λ points. IsMultipleOfSlopes full points e in (
      λ both. All-cons P c.points (points_of cs) (subst (λ f. IsMultipleOfSlopes f c.points e) here both.0) (rest.0 both.1),
      λ all. (subst (λ f. IsMultipleOfSlopes f c.points e) (sym here) (All-head P c.points (points_of cs) all), rest.1 (All-tail P c.points (points_of cs) all)),
    )

pub is_common : (curves : List CutCurve) (d : ℕ) → 0 < d → AreMultiples (IsMultipleOfAll curves) d → IsCommonDenominator curves d
is_common curves d some is = record {
  some = some;
  multiple = (is d).0 (divides_itself d);
  least = λ e all. (is e).1 all;
}

pub common_past : (curves : List CutCurve) (limit : ℕ) → IsPast limit (IsMultipleOfAll curves) → (d : ℕ) → IsCommonDenominator curves d → limit < d
common_past curves limit past d is = past d is.some is.multiple

-- of curves that are cut at the same full battery
pub is_denominator : (curves : List CutCurve) (full d : ℕ) → All (λ c. c.full ≡ full) curves → IsCommonDenominator curves d → IsDenominator full (points_of curves) d
is_denominator curves full d same is = record {
  some = is.some;
  multiple = (multiples full curves d same).0 is.multiple;
  least = λ e all. is.least e ((multiples full curves e same).1 all);
}

-- there is one
pub same_common : (curves : List CutCurve) (d e : ℕ) → IsCommonDenominator curves d → IsCommonDenominator curves e → d ≡ e
same_common curves d e h i = dvd_antisymm (h.least e i.multiple) (i.least d h.multiple)

-- the numbers that are multiples of a base and make all slopes whole are the multiples of one number
all_denominator : (curves : List CutCurve) (base : ℕ) → 0 < base → All IsAccepted curves →
    (d : ℕ) × (0 < d) × AreMultiples (λ e. (base ∣ e) × IsMultipleOfAll curves e) d
all_denominator [] base some all = (base, some, λ e. (λ divides. (divides, tt), λ both. both.0))
all_denominator (c ∷ cs) base some all =
    let here = All-head IsAccepted c cs all in
    let first = slopes_denominator c.full base c.points some here.curve.rises in
    let rest = all_denominator cs first.0 first.1 (All-tail IsAccepted c cs all) in (
      rest.0,
      rest.1,
      λ e. (
        λ divides. let parts = (rest.2 e).0 divides in let both = (first.2 e).0 parts.0 in (both.0, (both.1, parts.1)),
        λ have. (rest.2 e).1 ((first.2 e).1 (have.0, have.1.0), have.1.1),
      ),
    )

pub common_exists : (curves : List CutCurve) → All IsAccepted curves → (d : ℕ) × IsCommonDenominator curves d
common_exists curves all =
    let found = all_denominator curves 1 (omega arith) all in
    (found.0, is_common curves found.0 found.1 (λ e. (λ divides. ((found.2 e).0 divides).1, λ have. (found.2 e).1 (one_divides e, have))))

-- before the first curve
pub all_left : (curves : List CutCurve) (e : ℕ) → ((1 ∣ e) × IsMultipleOfAll curves e) ↔ IsMultipleOfAll curves e
all_left curves e = (λ both. both.1, λ all. (one_divides e, all))

none_left : (curves : List CutCurve) (index e : ℕ) → length curves ≤ index → IsMultipleOfAll (drop index curves) e
none_left [] zero e past = tt
none_left [] (suc index) e past = tt
none_left (c ∷ cs) zero e past = absurd (omega (arith, past))
none_left (c ∷ cs) (suc index) e past = none_left cs index e (omega (arith, past))

-- after the last curve
pub common_at_end : (curves : List CutCurve) (d index : ℕ) → length curves ≤ index → 0 < d →
    ((e : ℕ) → ((d ∣ e) × IsMultipleOfAll (drop index curves) e) ↔ IsMultipleOfAll curves e) → IsCommonDenominator curves d
common_at_end curves d index past some is = is_common curves d some (λ e. (
  λ divides. (is e).0 (divides, none_left curves index e past),
  λ all. ((is e).1 all).0,
))
