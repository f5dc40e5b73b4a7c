-- Times of charging at a station, by its scaled curve.
use Rattle.std.proofs.Common.{◌≡◌, ℕ, ◌-◌, ◌≤◌, List, Option, Some, refl, sym}
use Rattle.std.specs.Option.{IsSome}
use Rattle.ev_model.specs.Curve.{charge_time}
use Rattle.ev_model.specs.Network.{Network, curve_at}
use Rattle.ev_model.specs.Time.{charging_time}
use Rattle.ev_model.proofs.ChargeTime.{charge_time_in-one}
use Rattle.charge_curve.specs.Points.{time_on}
use Rattle.instance_reader.specs.Instance.{IsCurveAt}

charging_on : (d : ℕ) (o : Option (List (ℕ × ℕ))) (points : List (ℕ × ℕ)) (a b : ℕ) → o ≡ Some points → charging_time 1 d o a b ≡ charge_time d points b - charge_time d points a
charging_on d o points a b is = rw (is, charge_time_in-one d points a, charge_time_in-one d points b) refl

-- the difference of two times of a station's scaled curve is the time of charging
pub station_charging : (g : Network) (node : ℕ) (scaled : List (ℕ × ℕ)) (a b : ℕ) → IsCurveAt g node scaled → a ≤ g.capacity → b ≤ g.capacity → time_on scaled b - time_on scaled a ≡ charging_time 1 g.denominator (curve_at g node) a b
station_charging g node scaled a b is low high = rw (is.2.times a low, is.2.times b high) (sym (charging_on g.denominator (curve_at g node) is.0 a b is.1))

-- a station's node has a curve
pub station_has_curve : (g : Network) (node : ℕ) (scaled : List (ℕ × ℕ)) → IsCurveAt g node scaled → IsSome (curve_at g node)
station_has_curve g node scaled is = rw is.1 refl
