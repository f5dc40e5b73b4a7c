-- The fastest rate of a curve.
use Rattle.std.proofs.Common.{◌≡◌, ℕ, zero, suc, ◌+◌, ◌-◌, ◌*◌, ◌<◌, ◌≤◌, List, ap, arith, subst}
use Rattle.charge_curve.specs.Points.{last_level, time_on}
use Rattle.charge_curve.specs.Scaled.{IsScaledCurve}
use Rattle.ev_model.specs.Network.{Network}
use Rattle.instance_reader.specs.Instance.{IsCurveAt}
use Rattle.piece_fn.proofs.Straight.{slows}
use Rattle.dominance.proofs.Pieces.{never_falls}
use Rattle.frvcp_labels.specs.Rest.{IsRateAt}
use Rattle.label_steps.proofs.ChargingTimes.{station_charging}

module _ (curve : List (ℕ × ℕ)) (is : IsScaledCurve curve) where
  -- how long the first unit of charge takes
  abbrev pub first_unit : ℕ
  first_unit = time_on curve 1 - time_on curve 0

  -- no later unit takes less
  unit_at : (level : ℕ) → level < last_level curve → time_on curve level + first_unit ≤ time_on curve (level + 1)
  unit_at zero under = omega (arith, never_falls curve is.points 0 1 (omega arith))
  unit_at (suc level) under =
      let before = unit_at level (omega arith) in
      let slow = slows curve (suc level) is.points is.slowing (omega arith) under in
      let here : time_on curve (level + 1) ≡ time_on curve (suc level) = ap (time_on curve) (omega arith) in
      let back : time_on curve (suc level - 1) ≡ time_on curve level = ap (time_on curve) (omega arith) in
      omega (arith, before, slow, here, back)

  units_from : (from n : ℕ) → from + n ≤ last_level curve → time_on curve from + first_unit * n ≤ time_on curve (from + n)
  units_from from zero under =
      let same : time_on curve (from + 0) ≡ time_on curve from = ap (time_on curve) (omega arith) in
      omega (arith, same)
  units_from from (suc n) under =
      let before = units_from from n (omega arith) in
      let next = unit_at (from + n) (omega arith) in
      let same : time_on curve (from + suc n) ≡ time_on curve (from + n + 1) = ap (time_on curve) (omega arith) in
      let more : first_unit * suc n ≡ first_unit * n + first_unit = omega arith in
      omega (arith, before, next, same, more)

  pub units_between : (a b : ℕ) → a ≤ b → b ≤ last_level curve → first_unit * (b - a) ≤ time_on curve b - time_on curve a
  units_between a b up fits =
      let all = units_from a (b - a) (omega arith) in
      let same : time_on curve (a + (b - a)) ≡ time_on curve b = ap (time_on curve) (omega arith) in
      omega (arith, all, same)

  -- at a station with that curve
  pub station_rate : (g : Network) (node : ℕ) → IsCurveAt g node curve → IsRateAt g first_unit node
  station_rate g node at a b up fits =
      let takes = station_charging g node curve a b at (omega arith) fits in
      let units = units_between a b up (omega (arith, at.2.full)) in
      subst (λ x. first_unit * (b - a) ≤ x) takes units
