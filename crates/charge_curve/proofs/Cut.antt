-- The breakpoints of a scaled curve, one after another.
use Rattle.std.proofs.Common.{◌≡◌, ◌∙◌, ℕ, ◌+◌, ◌-◌, ◌*◌, ◌/◌, ◌%◌, ◌<◌, ◌≤◌, List, [], ◌∷◌, filter, refl, sym, ap, arith, inl, inr, nat_lt, if◌then◌else◌}
use Rattle.std.specs.Int.{◌∣◌}
use Rattle.std.proofs.lemmas.Nat.Gcd.{mod-eq-zero_of_dvd}
use Rattle.std.proofs.Math.Nat.{div-mul_cancel, mul-div_cancel, mul-mod_left, mul-le-mul_left, mul-pos, mul-sub, le_of_mul-le-mul_left}
use Rattle.std.proofs.lemmas.Bool.{cases_lt, lt-ltb, le-ltb}
use Rattle.ev_model.specs.Curve.{Rises, last_charge}
use Rattle.ev_model.proofs.ChargeTime.{charge_time-first, charge_time-later}
use Rattle.charge_curve.specs.Points.{slope}
use Rattle.charge_curve.specs.Scaled.{breaks_of, scaled}
use Rattle.charge_curve.proofs.Steps.{slope-scaled}

-- the scaled time for a unit of charge from p to q
abbrev pub unit : ℕ → ℕ × ℕ → ℕ × ℕ → ℕ
unit d p q = d * (q.0 - p.0) / (q.1 - p.1)

-- the curve up to full on the segment from p to q
abbrev pub cut_at : ℕ → ℕ → ℕ × ℕ → ℕ × ℕ → ℕ × ℕ
cut_at d full p q = (full, d * p.0 + unit d p q * (full - p.1))

abbrev pub cut : ℕ → ℕ → List (ℕ × ℕ) → List (ℕ × ℕ)
cut d full [] = []
cut d full (p ∷ []) = scaled d p ∷ []
cut d full (p ∷ q ∷ ps) = scaled d p ∷ (if nat_lt q.1 full then cut d full (q ∷ ps) else cut_at d full p q ∷ [])

-- from a breakpoint at full on, none is below full
pub none_below : (full : ℕ) (p : ℕ × ℕ) (ps : List (ℕ × ℕ)) → Rises (p ∷ ps) → full ≤ p.1 → filter (λ x. nat_lt x.1 full) (p ∷ ps) ≡ []
none_below full p [] rises le = rw (le-ltb p.1 full le) refl
none_below full p (q ∷ ps) rises le = rw (le-ltb p.1 full le) (none_below full q ps rises.2 (omega (arith, le, rises.1)))

pub cut_under : (d full : ℕ) (p q : ℕ × ℕ) (ps : List (ℕ × ℕ)) → q.1 < full → cut d full (p ∷ q ∷ ps) ≡ scaled d p ∷ cut d full (q ∷ ps)
cut_under d full p q ps under = rw (lt-ltb q.1 full under) refl

pub cut_over : (d full : ℕ) (p q : ℕ × ℕ) (ps : List (ℕ × ℕ)) → full ≤ q.1 → cut d full (p ∷ q ∷ ps) ≡ scaled d p ∷ cut_at d full p q ∷ []
cut_over d full p q ps over = rw (le-ltb q.1 full over) refl

breaks_under : (d full : ℕ) (p q : ℕ × ℕ) (ps : List (ℕ × ℕ)) → p.1 < full → q.1 < full → breaks_of d full (p ∷ q ∷ ps) ≡ scaled d p ∷ breaks_of d full (q ∷ ps)
breaks_under d full p q ps less under = rw (lt-ltb p.1 full less, charge_time-later d p q ps full under) refl

-- the breakpoints of a curve are cut
pub breaks_are_cut : (d full : ℕ) (p : ℕ × ℕ) (ps : List (ℕ × ℕ)) → Rises (p ∷ ps) → p.1 < full → full ≤ last_charge (p ∷ ps) → breaks_of d full (p ∷ ps) ≡ cut d full (p ∷ ps)
breaks_are_cut d full p [] rises less reaches = absurd (omega (arith, less, reaches))
breaks_are_cut d full p (q ∷ ps) rises less reaches = elim (cases_lt q.1 full) [
  | inl under ↦
      breaks_under d full p q ps less under ∙ ap (λ xs. scaled d p ∷ xs) (breaks_are_cut d full q ps rises.2 under reaches) ∙ sym (cut_under d full p q ps under)
  | inr over ↦
      let none = none_below full q ps rises.2 over in
      let end = charge_time-first d p q ps full over in
      rw (lt-ltb p.1 full less, none, end, le-ltb q.1 full over) refl
]

-- what holds of the piece that begins at p
pub record IsPiece (d full : ℕ) (p q next : ℕ × ℕ) : Type 0 where
  pub higher : p.1 < next.0
  pub later : d * p.0 ≤ next.1
  pub end : next.1 ≤ d * q.0
  pub whole : (next.1 - d * p.0) % (next.0 - p.1) ≡ 0
  pub slope_is : slope (scaled d p) next ≡ unit d p q

-- up to the next breakpoint
pub whole_piece : (d full : ℕ) (p q : ℕ × ℕ) → p.0 < q.0 → p.1 < q.1 → (q.1 - p.1) ∣ (d * (q.0 - p.0)) → IsPiece d full p q (scaled d q)
whole_piece d full p q later higher divides = record {
  higher = higher;
  later = mul-le-mul_left d (omega (arith, later));
  end = omega arith;
  whole = ap (λ x. x % (q.1 - p.1)) (sym (mul-sub d q.0 p.0)) ∙ mod-eq-zero_of_dvd (q.1 - p.1) divides;
  slope_is = slope-scaled d p q;
}

gain : (a b : ℕ) → a + b - a ≡ b
gain a b = omega arith

-- up to full
pub cut_piece : (d full : ℕ) (p q : ℕ × ℕ) → p.0 < q.0 → p.1 < full → full ≤ q.1 → (q.1 - p.1) ∣ (d * (q.0 - p.0)) → IsPiece d full p q (cut_at d full p q)
cut_piece d full p q later less over divides =
    let u = unit d p q in
    let part : u * (full - p.1) ≤ u * (q.1 - p.1) = mul-le-mul_left u (omega (arith, over)) in
    let all : u * (q.1 - p.1) ≡ d * (q.0 - p.0) = div-mul_cancel (q.1 - p.1) divides in
    let both : d * (q.0 - p.0) ≡ d * q.0 - d * p.0 = mul-sub d q.0 p.0 in
    let up : d * p.0 ≤ d * q.0 = mul-le-mul_left d (omega (arith, later)) in
    record {
      higher = less;
      later = omega arith;
      end = omega (arith, part, all, both, up);
      whole = ap (λ x. x % (full - p.1)) (gain (d * p.0) (u * (full - p.1))) ∙ mul-mod_left u (full - p.1);
      slope_is = ap (λ x. x / (full - p.1)) (gain (d * p.0) (u * (full - p.1))) ∙ mul-div_cancel u (omega (arith, less));
    }

products : (d u v a b s t : ℕ) → u * a * b ≡ d * s * b → v * b * a ≡ d * t * a → d * (s * b) ≤ d * (t * a) → (a * b) * u ≤ (a * b) * v
products d u v a b s t left right most =
    let one : (a * b) * u ≡ u * a * b = omega arith in
    let two : (a * b) * v ≡ v * b * a = omega arith in
    let three : d * s * b ≡ d * (s * b) = omega arith in
    let four : d * t * a ≡ d * (t * a) = omega arith in
    omega (arith, one, two, three, four, left, right, most)

-- no faster segments have slopes that don't fall
pub slower : (d : ℕ) (p q r : ℕ × ℕ) → p.1 < q.1 → q.1 < r.1 → (q.1 - p.1) ∣ (d * (q.0 - p.0)) → (r.1 - q.1) ∣ (d * (r.0 - q.0))
    → (q.0 - p.0) * (r.1 - q.1) ≤ (r.0 - q.0) * (q.1 - p.1) → unit d p q ≤ unit d q r
slower d p q r one two first second no_faster =
    let a = q.1 - p.1 in
    let b = r.1 - q.1 in
    let u = unit d p q in
    let v = unit d q r in
    let u_is : u * a ≡ d * (q.0 - p.0) = div-mul_cancel a first in
    let v_is : v * b ≡ d * (r.0 - q.0) = div-mul_cancel b second in
    let left : u * a * b ≡ d * (q.0 - p.0) * b = ap (λ x. x * b) u_is in
    let right : v * b * a ≡ d * (r.0 - q.0) * a = ap (λ x. x * a) v_is in
    let most : d * ((q.0 - p.0) * b) ≤ d * ((r.0 - q.0) * a) = mul-le-mul_left d no_faster in
    let joined : (a * b) * u ≤ (a * b) * v = products d u v a b (q.0 - p.0) (r.0 - q.0) left right most in
    le_of_mul-le-mul_left joined (mul-pos (omega (arith, one)) (omega (arith, two)))
