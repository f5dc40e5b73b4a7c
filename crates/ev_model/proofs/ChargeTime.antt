-- Charge times are linear between breakpoints, and whole at whole levels.
use Rattle.std.proofs.Common.{◌≡◌, ◌∙◌, ℕ, ◌+◌, ◌-◌, ◌*◌, ◌/◌, ◌<◌, ◌≤◌, sym, ap, subst, refl, List, [], ◌∷◌, ◌++◌, arith, inl, inr}
use Rattle.std.specs.Int.{◌∣◌}
use Rattle.std.proofs.Math.Nat.{div-mul_cancel, div-mul-le_self, div-one, mod-one, mul-le-mul_left}
use Rattle.std.proofs.lemmas.Bool.{cases_lt, le-leb, lt-leb}
use Rattle.ev_model.specs.Curve.{IsCurve, IsMultipleOfSlopes, Rises, charge_time, charge_time_in}

-- on the first segment
pub charge_time-first : (d : ℕ) (p q : ℕ × ℕ) (ps : List (ℕ × ℕ)) (level : ℕ) → level ≤ q.1 →
    charge_time d (p ∷ q ∷ ps) level ≡ d * p.0 + d * (q.0 - p.0) / (q.1 - p.1) * (level - p.1)
charge_time-first d p q ps level le = rw (le-leb level q.1 le) refl

-- past the first segment
pub charge_time-later : (d : ℕ) (p q : ℕ × ℕ) (ps : List (ℕ × ℕ)) (level : ℕ) → q.1 < level →
    charge_time d (p ∷ q ∷ ps) level ≡ charge_time d (q ∷ ps) level
charge_time-later d p q ps level lt = rw (lt-leb level q.1 lt) refl

-- at the first breakpoint
charge_time-start : (d : ℕ) (p : ℕ × ℕ) (ps : List (ℕ × ℕ)) → Rises (p ∷ ps) → charge_time d (p ∷ ps) p.1 ≡ d * p.0
charge_time-start d p [] rises = refl
charge_time-start d p (q ∷ ps) rises =
    let none : p.1 - p.1 ≡ 0 = omega arith in
    charge_time-first d p q ps p.1 (omega (arith, rises.1)) ∙ rw none (omega arith)

times_gap : (d a b : ℕ) → a ≤ b → d * a + d * (b - a) ≡ d * b
times_gap d a b le =
    let gap : a + (b - a) ≡ b = omega arith in
    let split : d * (a + (b - a)) ≡ d * a + d * (b - a) = omega arith in
    sym split ∙ ap (λ x. d * x) gap

-- the end of a segment whose slope is whole
segment_end : (d : ℕ) (p q : ℕ × ℕ) → p.0 < q.0 → (q.1 - p.1) ∣ (d * (q.0 - p.0)) → d * p.0 + d * (q.0 - p.0) / (q.1 - p.1) * (q.1 - p.1) ≡ d * q.0
segment_end d p q less whole =
    ap (λ x. d * p.0 + x) (div-mul_cancel (q.1 - p.1) whole) ∙ times_gap d p.0 q.0 (omega arith)

-- from the second breakpoint on, the first does not matter
from_second : (d full : ℕ) (p q : ℕ × ℕ) (ps : List (ℕ × ℕ)) (level : ℕ) → Rises (p ∷ q ∷ ps) → IsMultipleOfSlopes full (p ∷ q ∷ ps) d → p.1 < full → q.1 ≤ level →
    charge_time d (p ∷ q ∷ ps) level ≡ charge_time d (q ∷ ps) level
from_second d full p q ps level rises multiple below le = elim (cases_lt q.1 level) [
  | inl past ↦ charge_time-later d p q ps level past
  | inr not_past ↦
      let same : level ≡ q.1 = omega (arith, le, not_past) in
      let at_end : charge_time d (p ∷ q ∷ ps) q.1 ≡ d * q.0 =
      charge_time-first d p q ps q.1 (omega arith) ∙ segment_end d p q rises.0 (multiple.0 below) in
      subst (λ (x : ℕ). charge_time d (p ∷ q ∷ ps) x ≡ charge_time d (q ∷ ps) x) (sym same)
      (at_end ∙ sym (charge_time-start d q ps rises.2))
]

-- charges rise along the breakpoints
rises_to : (a : ℕ × ℕ) (before : List (ℕ × ℕ)) (p : ℕ × ℕ) (ps : List (ℕ × ℕ)) → Rises (a ∷ before ++ p ∷ ps) → a.1 < p.1
rises_to a [] p ps rises = rises.1
rises_to a (b ∷ before) p ps rises = let later = rises_to b before p ps rises.2 in omega (arith, later, rises.1)

-- on any segment that begins below full
pub charge_time-within : (d full : ℕ) (before : List (ℕ × ℕ)) (p q : ℕ × ℕ) (after : List (ℕ × ℕ)) (level : ℕ) →
    Rises (before ++ p ∷ q ∷ after) → IsMultipleOfSlopes full (before ++ p ∷ q ∷ after) d → p.1 < full → p.1 ≤ level → level ≤ q.1 →
    charge_time d (before ++ p ∷ q ∷ after) level ≡ d * p.0 + d * (q.0 - p.0) / (q.1 - p.1) * (level - p.1)
charge_time-within d full [] p q after level rises multiple below low high = charge_time-first d p q after level high
charge_time-within d full (a ∷ []) p q after level rises multiple below low high =
    from_second d full a p (q ∷ after) level rises multiple (omega (arith, rises.1, below)) low
    ∙ charge_time-within d full [] p q after level rises.2 multiple.1 below low high
charge_time-within d full (a ∷ b ∷ before) p q after level rises multiple below low high =
    let up = rises_to b before p (q ∷ after) rises.2 in
    from_second d full a b (before ++ p ∷ q ∷ after) level rises multiple (omega (arith, rises.1, up, below)) (omega (arith, up, low))
    ∙ charge_time-within d full (b ∷ before) p q after level rises.2 multiple.1 below low high

-- a breakpoint's slope is whole
whole_within : (d full : ℕ) (before : List (ℕ × ℕ)) (p q : ℕ × ℕ) (after : List (ℕ × ℕ)) → IsMultipleOfSlopes full (before ++ p ∷ q ∷ after) d → p.1 < full → (q.1 - p.1) ∣ (d * (q.0 - p.0))
whole_within d full [] p q after multiple below = multiple.0 below
whole_within d full (a ∷ []) p q after multiple below = whole_within d full [] p q after multiple.1 below
whole_within d full (a ∷ b ∷ before) p q after multiple below = whole_within d full (b ∷ before) p q after multiple.1 below

rises_within : (before : List (ℕ × ℕ)) (p q : ℕ × ℕ) (after : List (ℕ × ℕ)) → Rises (before ++ p ∷ q ∷ after) → (p.0 < q.0) × (p.1 < q.1)
rises_within [] p q after rises = (rises.0, rises.1)
rises_within (a ∷ []) p q after rises = rises_within [] p q after rises.2
rises_within (a ∷ b ∷ before) p q after rises = rises_within (b ∷ before) p q after rises.2

linear : (base d t c part slope : ℕ) → slope * c ≡ d * t → (d * base + slope * part) * c ≡ d * (base * c + t * part)
linear base d t c part slope whole =
    let split : (d * base + slope * part) * c ≡ d * base * c + slope * c * part = omega arith in
    let joined : d * base * c + d * t * part ≡ d * (base * c + t * part) = omega arith in
    split ∙ ap (λ x. d * base * c + x * part) whole ∙ joined

-- linear interpolation, multiplied out
pub interpolates : (d full : ℕ) (before : List (ℕ × ℕ)) (p q : ℕ × ℕ) (after : List (ℕ × ℕ)) (level : ℕ) →
    IsCurve full (before ++ p ∷ q ∷ after) → IsMultipleOfSlopes full (before ++ p ∷ q ∷ after) d → p.1 < full → p.1 ≤ level → level ≤ q.1 →
    charge_time d (before ++ p ∷ q ∷ after) level * (q.1 - p.1) ≡ d * (p.0 * (q.1 - p.1) + (q.0 - p.0) * (level - p.1))
interpolates d full before p q after level curve multiple below low high =
    ap (λ x. x * (q.1 - p.1)) (charge_time-within d full before p q after level curve.rises multiple below low high)
    ∙ linear p.0 d (q.0 - p.0) (q.1 - p.1) (level - p.1) (d * (q.0 - p.0) / (q.1 - p.1))
    (div-mul_cancel (q.1 - p.1) (whole_within d full before p q after multiple below))

-- at a breakpoint
pub at_breakpoint : (d full : ℕ) (before : List (ℕ × ℕ)) (p : ℕ × ℕ) (after : List (ℕ × ℕ)) →
    Rises (before ++ p ∷ after) → IsMultipleOfSlopes full (before ++ p ∷ after) d → p.1 ≤ full → charge_time d (before ++ p ∷ after) p.1 ≡ d * p.0
at_breakpoint d full [] p after rises multiple le = charge_time-start d p after rises
at_breakpoint d full (a ∷ []) p after rises multiple le =
    from_second d full a p after p.1 rises multiple (omega (arith, rises.1, le)) (omega arith)
    ∙ charge_time-start d p after rises.2
at_breakpoint d full (a ∷ b ∷ before) p after rises multiple le =
    let up = rises_to b before p after rises.2 in
    from_second d full a b (before ++ p ∷ after) p.1 rises multiple (omega (arith, rises.1, up, le)) (omega (arith, up))
    ∙ at_breakpoint d full (b ∷ before) p after rises.2 multiple.1 le

one_more : (a m b y : ℕ) → b ≤ y → a + m * (y + 1 - b) ≡ a + m * (y - b) + m
one_more a m b y le =
    let next : y + 1 - b ≡ (y - b) + 1 = omega arith in
    rw next (omega arith)

-- on a segment each unit of charge takes the same whole scaled time
pub grows_evenly : (d full : ℕ) (before : List (ℕ × ℕ)) (p q : ℕ × ℕ) (after : List (ℕ × ℕ)) →
    IsCurve full (before ++ p ∷ q ∷ after) → IsMultipleOfSlopes full (before ++ p ∷ q ∷ after) d → p.1 < full →
    (step : ℕ) × (step * (q.1 - p.1) ≡ d * (q.0 - p.0))
    × ((level : ℕ) → p.1 ≤ level → level < q.1 → charge_time d (before ++ p ∷ q ∷ after) (level + 1) ≡ charge_time d (before ++ p ∷ q ∷ after) level + step)
grows_evenly d full before p q after curve multiple below =
    let step = d * (q.0 - p.0) / (q.1 - p.1) in
    let within = λ (level : ℕ) (low : p.1 ≤ level) (high : level ≤ q.1). charge_time-within d full before p q after level curve.rises multiple below low high in (
      step,
      div-mul_cancel (q.1 - p.1) (whole_within d full before p q after multiple below),
      λ level low high. within (level + 1) (omega (arith, low)) (omega (arith, high)) ∙ one_more (d * p.0) step p.1 level low ∙ ap (λ x. x + step) (sym (within level low (omega (arith, high)))),
    )

-- no time is below the first breakpoint's
at_least_first : (d : ℕ) (p : ℕ × ℕ) (ps : List (ℕ × ℕ)) (level : ℕ) → Rises (p ∷ ps) → d * p.0 ≤ charge_time d (p ∷ ps) level
at_least_first d p [] level rises = omega arith
at_least_first d p (q ∷ ps) level rises = elim (cases_lt q.1 level) [
  | inl past ↦
      let up : d * p.0 ≤ d * q.0 = mul-le-mul_left d (omega (arith, rises.0)) in
      rw (charge_time-later d p q ps level past) (omega (arith, up, at_least_first d q ps level rises.2))
  | inr within ↦ rw (charge_time-first d p q ps level (omega (arith, within))) (omega arith)
]

-- no time on a segment is above that of its end
at_most_end : (d : ℕ) (p q : ℕ × ℕ) (level : ℕ) → p.0 < q.0 → p.1 < q.1 → level ≤ q.1 → d * p.0 + d * (q.0 - p.0) / (q.1 - p.1) * (level - p.1) ≤ d * q.0
at_most_end d p q level times charges le =
    let slope = d * (q.0 - p.0) / (q.1 - p.1) in
    let part : slope * (level - p.1) ≤ slope * (q.1 - p.1) = mul-le-mul_left slope (omega (arith, le)) in
    let all : slope * (q.1 - p.1) ≤ d * (q.0 - p.0) = div-mul-le_self (d * (q.0 - p.0)) (q.1 - p.1) in
    omega (arith, part, all, times_gap d p.0 q.0 (omega (arith, times)))

-- charging to a higher level takes no less time
pub charge_time-rises : (d : ℕ) (points : List (ℕ × ℕ)) (a b : ℕ) → Rises points → a ≤ b → charge_time d points a ≤ charge_time d points b
charge_time-rises d [] a b rises le = omega arith
charge_time-rises d (p ∷ []) a b rises le = omega arith
charge_time-rises d (p ∷ q ∷ ps) a b rises le = elim (cases_lt q.1 a) [
  | inl a_past ↦
      rw (charge_time-later d p q ps a a_past, charge_time-later d p q ps b (omega (arith, a_past, le)))
      (charge_time-rises d (q ∷ ps) a b rises.2 le)
  | inr a_first ↦ elim (cases_lt q.1 b) [
    | inl b_past ↦
        rw (charge_time-first d p q ps a (omega (arith, a_first)), charge_time-later d p q ps b b_past)
        (omega (arith, at_most_end d p q a rises.0 rises.1 (omega (arith, a_first)), at_least_first d q ps b rises.2))
    | inr b_first ↦
        let slope = d * (q.0 - p.0) / (q.1 - p.1) in
        let part : slope * (a - p.1) ≤ slope * (b - p.1) = mul-le-mul_left slope (omega (arith, le)) in
        rw (charge_time-first d p q ps a (omega (arith, a_first)), charge_time-first d p q ps b (omega (arith, b_first)))
        (omega (arith, part))
  ]
]

-- a level in whole units
pub charge_time_in-one : (d : ℕ) (points : List (ℕ × ℕ)) (level : ℕ) → charge_time_in 1 d points level ≡ charge_time d points level
unfolding charge_time_in
charge_time_in-one d points level = rw (div-one, mod-one) (omega arith)
