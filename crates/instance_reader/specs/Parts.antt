-- The parts of an instance.
use Rattle.std.specs.Prelude.{◌≡◌, ℕ, ◌*◌, ◌≤◌, List, Option, All, map}
use Rattle.ev_model.specs.Curve.{IsCurve, IsDenominator}
use Rattle.instance_reader.specs.Checked.{HasLevels, HasShape, HasSmallNumbers}
use Rattle.instance_reader.specs.Contents.{Contents}
use Rattle.instance_reader.specs.Curves.{all_points, cut_curve}
use Rattle.instance_reader.specs.Instance.{TellsChargeTime}
use Rattle.instance_reader.specs.Limits.{horizon, most_denominator}
use Rattle.instance_reader.specs.Meaning.{AreCurveNumbers}
use Rattle.instance_reader.specs.declared.curves.StationCurve.{StationCurve}

-- curves with scaled times and their numbers by node, a denominator and a limit that fit the contents of a file
pub record AreParts (c : Contents) (curves : List StationCurve) (numbers : List (Option ℕ)) (d limit : ℕ) : Type 0 where
  pub small : HasSmallNumbers c
  pub shape : HasShape c
  pub levels : HasLevels c
  pub given : map (λ s. s.curve) curves ≡ map (cut_curve c.capacity) c.curves
  pub good : All (IsCurve c.capacity) (all_points c.curves)
  pub tells : All (λ s. TellsChargeTime c.capacity d s.curve.points s.scaled) curves
  pub by_node : AreCurveNumbers c numbers
  pub denominator : IsDenominator c.capacity (all_points c.curves) d
  pub small_denominator : d ≤ most_denominator
  pub small_limit : d * limit ≤ horizon
