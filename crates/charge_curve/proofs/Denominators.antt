-- Common multiples of slopes, one segment after another.
use Rattle.std.proofs.Common.{◌≡◌, ◌∙◌, ◌↔◌, ℕ, zero, suc, ◌+◌, ◌-◌, ◌*◌, ◌/◌, ◌<◌, ◌≤◌, List, [], ◌∷◌, length, length-drop, get_or, drop, sym, ap, subst, arith, inl, inr}
use Rattle.std.specs.Int.{◌∣◌, IsGcd}
use Rattle.std.proofs.Math.Nat.{dvd_trans, dvd-mul_left, dvd_of_mul-dvd-mul_left, mul-div_cancel', mul-dvd-mul_left, mul_comm}
use Rattle.std.proofs.lemmas.Bool.{cases_lt}
use Rattle.std.proofs.Math.Seq.{drop-cons}
use Rattle.std.proofs.lemmas.Nat.Gcd.{le_of_dvd}
use Rattle.ev_model.specs.Curve.{IsMultipleOfSlope, IsMultipleOfSlopes, Rises}
use Rattle.ev_units.specs.Units.{IsLcm, IsLcmPast}
use Rattle.ev_units.proofs.Divisors.{lcm_exists, pos_cofactor, pos_from_IsLcm, whole_iff_reduced_divides}
use Rattle.charge_curve.specs.Multiples.{AreMultiples, IsPast}

-- the gap of charges over the greatest common divisor of both gaps is the denominator of the slope in lowest terms
pub reduced_is : (p q : ℕ × ℕ) (g : ℕ) → p.1 < q.1 → IsGcd (q.0 - p.0) (q.1 - p.1) g → (0 < (q.1 - p.1) / g) × AreMultiples (IsMultipleOfSlope p q) ((q.1 - p.1) / g)
reduced_is p q g less gcd =
    let some : 0 < q.1 - p.1 = omega (arith, less) in
    let is : (e : ℕ) → IsMultipleOfSlope p q e ↔ (((q.1 - p.1) / g) ∣ e) = λ e. whole_iff_reduced_divides (q.0 - p.0) (q.1 - p.1) g e some gcd in
    (pos_cofactor g (q.1 - p.1) some gcd.1, λ e. ((is e).1, (is e).0))

-- one more slope: d is the least common multiple with its reduced denominator
pub with_slope_is : (p q : ℕ × ℕ) (base r d : ℕ) → AreMultiples (IsMultipleOfSlope p q) r → IsLcm base r d → AreMultiples (λ e. (base ∣ e) × IsMultipleOfSlope p q e) d
with_slope_is p q base r d reduced least e = (
  λ divides. (dvd_trans base least.0 divides, (reduced e).0 (dvd_trans r least.1 divides)),
  λ both. least.2 e both.0 ((reduced e).1 both.1),
)

-- the least common multiple is past the limit, and so is each common multiple
pub past_slope : (p q : ℕ × ℕ) (base r limit : ℕ) → AreMultiples (IsMultipleOfSlope p q) r → IsLcmPast limit base r → IsPast limit (λ e. (base ∣ e) × IsMultipleOfSlope p q e)
past_slope p q base r limit reduced past e some both =
    let divides : past.0 ∣ e = past.1.2 e both.0 ((reduced e).1 both.1) in
    let le : past.0 ≤ e = le_of_dvd some divides in
    omega (arith, le, past.2)

-- the multiples of `common` among those of the rest are the multiples of `base` among those of all
abbrev pub Leaves : ℕ → List (ℕ × ℕ) → ℕ → ℕ → List (ℕ × ℕ) → Type 0
Leaves full points base common rest =
    (e : ℕ) → ((common ∣ e) × IsMultipleOfSlopes full rest e) ↔ ((base ∣ e) × IsMultipleOfSlopes full points e)

-- two points from an index on
pub two_from : (points : List (ℕ × ℕ)) (index : ℕ) (d : ℕ × ℕ) → index + 1 < length points →
    (rest : List (ℕ × ℕ)) × (drop index points ≡ get_or points index d ∷ get_or points (index + 1) d ∷ rest) × (drop (index + 1) points ≡ get_or points (index + 1) d ∷ rest)
two_from points index d less =
    let next : suc index ≡ index + 1 = omega arith in
    let first : drop index points ≡ get_or points index d ∷ drop (index + 1) points = subst (λ n. drop index points ≡ get_or points index d ∷ drop n points) next (drop-cons points index d (omega (arith, less))) in
    let second = drop-cons points (index + 1) d less in
    (drop (suc (index + 1)) points, first ∙ ap (λ xs. get_or points index d ∷ xs) second, second)

pub rises_at : (points : List (ℕ × ℕ)) (index : ℕ) (d : ℕ × ℕ) → Rises points → index + 1 < length points →
    ((get_or points index d).0 < (get_or points (index + 1) d).0) × ((get_or points index d).1 < (get_or points (index + 1) d).1)
rises_at [] index d rises less = absurd (omega (arith, less))
rises_at (p ∷ []) index d rises less = absurd (omega (arith, less))
rises_at (p ∷ q ∷ ps) zero d rises less = (rises.0, rises.1)
rises_at (p ∷ q ∷ ps) (suc index) d rises less =
    let next : suc index + 1 ≡ suc (index + 1) = omega arith in
    rw next (rises_at (q ∷ ps) index d rises.2 (omega (arith, less)))

-- a segment that begins below full
pub leaves_within : (full base common next : ℕ) (points : List (ℕ × ℕ)) (index : ℕ) (d : ℕ × ℕ) → index + 1 < length points →
    (get_or points index d).1 < full →
    AreMultiples (λ e. (common ∣ e) × IsMultipleOfSlope (get_or points index d) (get_or points (index + 1) d) e) next →
    Leaves full points base common (drop index points) → Leaves full points base next (drop (index + 1) points)
leaves_within full base common next points index d less below is leaves e =
    let p = get_or points index d in
    let q = get_or points (index + 1) d in
    let two = two_from points index d less in
    let from : ((common ∣ e) × IsMultipleOfSlopes full (p ∷ q ∷ two.0) e) ↔ ((base ∣ e) × IsMultipleOfSlopes full points e) =
    subst (λ (xs : List (ℕ × ℕ)). ((common ∣ e) × IsMultipleOfSlopes full xs e) ↔ ((base ∣ e) × IsMultipleOfSlopes full points e)) two.1 (leaves e) in
    let to : ((next ∣ e) × IsMultipleOfSlopes full (q ∷ two.0) e) ↔ ((base ∣ e) × IsMultipleOfSlopes full points e) = (
      λ have. let parts = (is e).0 have.0 in from.0 (parts.0, (λ low. parts.1, have.1)),
      λ all. let parts = from.1 all in ((is e).1 (parts.0, parts.1.0 below), parts.1.1),
    ) in
    subst (λ (xs : List (ℕ × ℕ)). ((next ∣ e) × IsMultipleOfSlopes full xs e) ↔ ((base ∣ e) × IsMultipleOfSlopes full points e)) (sym two.2) to

-- a segment that begins at full or above
pub leaves_above : (full base common : ℕ) (points : List (ℕ × ℕ)) (index : ℕ) (d : ℕ × ℕ) → index + 1 < length points →
    full ≤ (get_or points index d).1 → Leaves full points base common (drop index points) → Leaves full points base common (drop (index + 1) points)
leaves_above full base common points index d less above leaves e =
    let p = get_or points index d in
    let q = get_or points (index + 1) d in
    let two = two_from points index d less in
    let from : ((common ∣ e) × IsMultipleOfSlopes full (p ∷ q ∷ two.0) e) ↔ ((base ∣ e) × IsMultipleOfSlopes full points e) =
    subst (λ (xs : List (ℕ × ℕ)). ((common ∣ e) × IsMultipleOfSlopes full xs e) ↔ ((base ∣ e) × IsMultipleOfSlopes full points e)) two.1 (leaves e) in
    let to : ((common ∣ e) × IsMultipleOfSlopes full (q ∷ two.0) e) ↔ ((base ∣ e) × IsMultipleOfSlopes full points e) = (
      λ have. from.0 (have.0, (λ low. absurd (omega (arith, low, above)), have.1)),
      λ all. let parts = from.1 all in (parts.0, parts.1.1),
    ) in
    subst (λ (xs : List (ℕ × ℕ)). ((common ∣ e) × IsMultipleOfSlopes full xs e) ↔ ((base ∣ e) × IsMultipleOfSlopes full points e)) (sym two.2) to

-- no common multiple is within the limit
pub none_within : (full base common limit : ℕ) (points : List (ℕ × ℕ)) (index : ℕ) (d : ℕ × ℕ) → index + 1 < length points →
    (get_or points index d).1 < full →
    IsPast limit (λ e. (common ∣ e) × IsMultipleOfSlope (get_or points index d) (get_or points (index + 1) d) e) →
    Leaves full points base common (drop index points) → IsPast limit (λ e. (base ∣ e) × IsMultipleOfSlopes full points e)
none_within full base common limit points index d less below past leaves e some multiple =
    let two = two_from points index d less in
    let p = get_or points index d in
    let q = get_or points (index + 1) d in
    let parts = (leaves e).1 multiple in
    let slopes : IsMultipleOfSlopes full (p ∷ q ∷ two.0) e = subst (λ (xs : List (ℕ × ℕ)). IsMultipleOfSlopes full xs e) two.1 parts.1 in
    past e some (parts.0, slopes.0 below)

short_is_multiple : (full : ℕ) (points : List (ℕ × ℕ)) (e : ℕ) → length points ≤ 1 → IsMultipleOfSlopes full points e
short_is_multiple full [] e le = tt
short_is_multiple full (p ∷ []) e le = tt
short_is_multiple full (p ∷ q ∷ ps) e le = absurd (omega (arith, le))

-- no segment is left
pub leaves_end : (full base common : ℕ) (points : List (ℕ × ℕ)) (index : ℕ) → length points ≤ index + 1 →
    Leaves full points base common (drop index points) → AreMultiples (λ e. (base ∣ e) × IsMultipleOfSlopes full points e) common
leaves_end full base common points index le leaves e = (
  λ divides. (leaves e).0 (divides, short_is_multiple full (drop index points) e (omega (arith, length-drop index points, le))),
  λ all. ((leaves e).1 all).0,
)

-- ---- there is a denominator

-- a slope has a denominator in lowest terms: the least common multiple of both gaps over the gap of times
slope_denominator : (p q : ℕ × ℕ) → p.0 < q.0 → p.1 < q.1 → (r : ℕ) × (0 < r) × AreMultiples (IsMultipleOfSlope p q) r
slope_denominator p q later higher =
    let t = q.0 - p.0 in
    let some_t : 0 < t = omega (arith, later) in
    let some_c : 0 < q.1 - p.1 = omega (arith, higher) in
    let found = lcm_exists t (q.1 - p.1) some_t some_c in
    let m = found.0 in
    let is : t * (m / t) ≡ m = mul-div_cancel' t found.1.0 in (
      m / t,
      pos_cofactor t m (pos_from_IsLcm t (q.1 - p.1) m some_t some_c found.1) found.1.0,
      λ e. (
        λ divides. subst (λ x. (q.1 - p.1) ∣ x) (mul_comm t e) (dvd_trans (q.1 - p.1) found.1.1 (subst (λ x. x ∣ (t * e)) is (mul-dvd-mul_left (m / t) t divides))),
        λ whole. dvd_of_mul-dvd-mul_left (m / t) some_t (subst (λ x. (t * (m / t)) ∣ x) (mul_comm e t) (subst (λ x. x ∣ (e * t)) (sym is) (found.1.2 (e * t) (dvd-mul_left t e) whole))),
      ),
    )

-- the numbers that are multiples of a base and make the slopes of breakpoints whole are the multiples of one number
pub slopes_denominator : (full base : ℕ) (points : List (ℕ × ℕ)) → 0 < base → Rises points →
    (d : ℕ) × (0 < d) × AreMultiples (λ e. (base ∣ e) × IsMultipleOfSlopes full points e) d
slopes_denominator full base [] some rises = (base, some, λ e. (λ divides. (divides, tt), λ both. both.0))
slopes_denominator full base (p ∷ []) some rises = (base, some, λ e. (λ divides. (divides, tt), λ both. both.0))
slopes_denominator full base (p ∷ q ∷ ps) some rises = elim (cases_lt p.1 full) [
  | inl below ↦
      let slope = slope_denominator p q rises.0 rises.1 in
      let found = lcm_exists base slope.0 some slope.1 in
      let with = with_slope_is p q base slope.0 found.0 slope.2 found.1 in
      let rest = slopes_denominator full found.0 (q ∷ ps) (pos_from_IsLcm base slope.0 found.0 some slope.1 found.1) rises.2 in (
        rest.0,
        rest.1,
        λ e. (
          λ divides. let parts = (rest.2 e).0 divides in let both = (with e).0 parts.0 in (both.0, (λ low. both.1, parts.1)),
          λ all. (rest.2 e).1 ((with e).1 (all.0, all.1.0 below), all.1.1),
        ),
      )
  | inr above ↦
      let rest = slopes_denominator full base (q ∷ ps) some rises.2 in (
        rest.0,
        rest.1,
        λ e. (
          λ divides. let parts = (rest.2 e).0 divides in (parts.0, (λ low. absurd (omega (arith, low, above)), parts.1)),
          λ all. (rest.2 e).1 (all.0, all.1.1),
        ),
      )
]
