-- A curve up to a full battery.
use Rattle.std.specs.Prelude.{ℕ, ◌≤◌, ◌^◌, List, length, map}
use Rattle.std.specs.List.{All}
use Rattle.ev_model.specs.Curve.{IsCurve}

-- breakpoints (time, charge), which count up to the level full
pub record CutCurve : Type 0 where
  pub points : List (ℕ × ℕ)
  pub full : ℕ

-- the numbers that the program allows
pub record IsSmall (points : List (ℕ × ℕ)) (capacity : ℕ) : Type 0 where
  pub times : All (λ p. p.0 ≤ 10 ^ 9) points
  pub charges : All (λ p. p.1 ≤ 10 ^ 9) points
  pub full : capacity ≤ 10 ^ 9

-- the most breakpoints of a curve
abbrev pub most_breakpoints : ℕ
most_breakpoints = 32

-- what holds of every curve that was accepted
pub record IsAccepted (c : CutCurve) : Type 0 where
  pub curve : IsCurve c.full c.points
  pub small : IsSmall c.points c.full
  pub few : length c.points ≤ most_breakpoints

-- the breakpoints of curves
abbrev pub points_of : List CutCurve → List (List (ℕ × ℕ))
points_of curves = map (λ curve. curve.points) curves
