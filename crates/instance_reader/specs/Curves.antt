-- The rule on curves.
use Rattle.std.specs.Prelude.{ℕ, List, Option, map, option_map}
use Rattle.charge_curve.specs.CutCurve.{CutCurve}
use Rattle.charge_curve.specs.Faults.{curve_fault}
use Rattle.charge_curve.specs.declared.fault.CurveFault.{CurveFault}
use Rattle.charge_curve.specs.declared.fault.CurveFault.TheVariants as curve
use Rattle.instance_reader.specs.Contents.{CurveOfType, points_of}
use Rattle.instance_reader.specs.Search.{first_along}
use Rattle.instance_reader.specs.declared.faults.ReadFault.{ReadFault}
use Rattle.instance_reader.specs.declared.faults.ReadFault.TheVariants.{BadCurve, Memory}

-- the breakpoints of all curves, used or not
abbrev pub all_points : List CurveOfType → List (List (ℕ × ℕ))
all_points curves = map points_of curves

-- the curve of an entry, cut at the capacity
abbrev pub cut_curve : ℕ → CurveOfType → CutCurve
cut_curve capacity curve = record { points = points_of curve; full = capacity }

abbrev pub bad_curve : ℕ → ℕ → CurveOfType → Option ReadFault
bad_curve capacity number curve =
    option_map (BadCurve number) (curve_fault capacity (points_of curve))

-- the first entry whose breakpoints are no curve up to the capacity
abbrev pub bad_curve_in : ℕ → List CurveOfType → Option ReadFault
bad_curve_in capacity curves = first_along (bad_curve capacity) 0 curves

-- the refusal of an entry whose curve is refused; want of memory stays that
abbrev pub read_fault : ℕ → CurveFault → ReadFault
read_fault number curve.Memory = Memory
read_fault number other = BadCurve number other
