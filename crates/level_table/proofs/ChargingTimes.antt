-- Times of charging in whole units.
use Rattle.std.proofs.Common.{◌≡◌, ℕ, ◌+◌, ◌-◌, ◌≤◌, List, Option, Some, None, length, refl, sym, subst, inl, inr, arith}
use Rattle.std.proofs.lemmas.Bool.{cases_lt}
use Rattle.std.proofs.lemmas.List.{get_or_past}
use Rattle.std.proofs.lemmas.List.Elements.{All-get_or}
use Rattle.ev_model.specs.Curve.{Rises, charge_time}
use Rattle.ev_model.specs.Network.{HasFittingCurve, IsNetwork, Network, curve_at}
use Rattle.std.specs.Option.{IsSome}
use Rattle.charge_curve.specs.Points.{time_on}
use Rattle.instance_reader.specs.Instance.{IsCurveAt}
use Rattle.ev_model.specs.Time.{charging_time}
use Rattle.ev_model.proofs.ChargeTime.{charge_time-rises, charge_time_in-one}

fitting-rises : (capacity denominator : ℕ) (o : Option (List (ℕ × ℕ))) (points : List (ℕ × ℕ)) → HasFittingCurve capacity denominator o → o ≡ Some points → Rises points
fitting-rises capacity denominator None points fits is = cc
fitting-rises capacity denominator (Some other) points fits is =
    let same : other ≡ points = cc in
    subst (λ (ps : List (ℕ × ℕ)). Rises ps) same fits.0.rises

-- the breakpoints of a node rise
pub curve-rises : (g : Network) → IsNetwork g → (node : ℕ) (points : List (ℕ × ℕ)) → curve_at g node ≡ Some points → Rises points
curve-rises g network node points is = elim (cases_lt node (length g.curves)) [
  | inl within ↦
      fitting-rises g.capacity g.denominator (curve_at g node) points
      (All-get_or (HasFittingCurve g.capacity g.denominator) g.curves node None within network.curves) is
  | inr past ↦ let none : curve_at g node ≡ None = get_or_past g.curves node None (omega (arith, past)) in cc
]

adds : (d : ℕ) (o : Option (List (ℕ × ℕ))) (a b c : ℕ) → ((points : List (ℕ × ℕ)) → o ≡ Some points → Rises points) → a ≤ b → b ≤ c →
    charging_time 1 d o a b + charging_time 1 d o b c ≡ charging_time 1 d o a c
adds d None a b c rises first second = refl
adds d (Some points) a b c rises first second =
    let up = rises points refl in
    let one = charge_time-rises d points a b up first in
    let two = charge_time-rises d points b c up second in
    rw (charge_time_in-one d points a, charge_time_in-one d points b, charge_time_in-one d points c) (omega (arith, one, two))

-- charging in two parts takes the time of both
pub charging-adds : (g : Network) (node a b c : ℕ) → IsNetwork g → a ≤ b → b ≤ c →
    charging_time 1 g.denominator (curve_at g node) a b + charging_time 1 g.denominator (curve_at g node) b c ≡ charging_time 1 g.denominator (curve_at g node) a c
charging-adds g node a b c network first second = adds g.denominator (curve_at g node) a b c (curve-rises g network node) first second

-- charging nothing takes no time
pub charging-nothing : (d : ℕ) (o : Option (List (ℕ × ℕ))) (a : ℕ) → charging_time 1 d o a a ≡ 0
charging-nothing d None a = refl
charging-nothing d (Some points) a = omega arith

-- charging one unit, on a curve that is known
pub charging-unit : (d : ℕ) (o : Option (List (ℕ × ℕ))) (points : List (ℕ × ℕ)) (a b : ℕ) → o ≡ Some points →
    charging_time 1 d o a b ≡ charge_time d points b - charge_time d points a
charging-unit d o points a b is = rw (is, charge_time_in-one d points a, charge_time_in-one d points b) refl

-- the difference of two times of a station's scaled curve is the time of charging
pub station-charging : (g : Network) (node : ℕ) (scaled : List (ℕ × ℕ)) (a b : ℕ) → IsCurveAt g node scaled → a ≤ g.capacity → b ≤ g.capacity →
    time_on scaled b - time_on scaled a ≡ charging_time 1 g.denominator (curve_at g node) a b
station-charging g node scaled a b is low high =
    rw (is.2.times a low, is.2.times b high) (sym (charging-unit g.denominator (curve_at g node) is.0 a b is.1))

-- a station's node has a curve
pub station-has_curve : (g : Network) (node : ℕ) (scaled : List (ℕ × ℕ)) → IsCurveAt g node scaled → IsSome (curve_at g node)
station-has_curve g node scaled is = rw is.1 refl

-- a station's scaled curve takes no less time to a higher level
pub station-rises : (g : Network) (node : ℕ) (scaled : List (ℕ × ℕ)) (a b : ℕ) → IsNetwork g → IsCurveAt g node scaled → a ≤ b → b ≤ g.capacity → time_on scaled a ≤ time_on scaled b
station-rises g node scaled a b network is le high =
    let up = charge_time-rises g.denominator is.0 a b (curve-rises g network node is.0 is.1) le in
    rw (is.2.times a (omega arith), is.2.times b high) up
