-- Why breakpoints are no curve: the first broken of five rules.
use Rattle.std.specs.Prelude.{ℕ, ◌+◌, ◌-◌, ◌*◌, Bool, false, ◌&&◌, List, [], ◌∷◌, length, Option, None, Some, nat_le, nat_lt, nat_eq, if◌then◌else◌}
use Rattle.ev_model.specs.Curve.{last_charge}
use Rattle.charge_curve.specs.CutCurve.{most_breakpoints}
use Rattle.charge_curve.specs.declared.fault.CurveFault.{CurveFault}
use Rattle.charge_curve.specs.declared.fault.CurveFault.TheVariants.{Start, Rise, Concave, Short, TooMany}

-- there are at least two breakpoints, and the first is empty at time 0
abbrev pub has_start : List (ℕ × ℕ) → Bool
has_start [] = false
has_start (p ∷ []) = false
has_start (p ∷ q ∷ ps) = nat_eq p.0 0 && nat_eq p.1 0

-- both time and charge are greater at q than at p
abbrev pub rises : ℕ × ℕ → ℕ × ℕ → Bool
rises p q = nat_lt p.0 q.0 && nat_lt p.1 q.1

-- the index of the first breakpoint whose time or charge is not greater than the one before; `index` is that of the second breakpoint
abbrev pub first_fall : ℕ → List (ℕ × ℕ) → Option ℕ
first_fall index [] = None
first_fall index (p ∷ []) = None
first_fall index (p ∷ q ∷ ps) =
    if rises p q then first_fall (index + 1) (q ∷ ps) else Some index

-- the segment from q to r takes at least as long for a unit of charge as the one from p to q
abbrev pub is_no_faster : ℕ × ℕ → ℕ × ℕ → ℕ × ℕ → Bool
is_no_faster p q r = nat_le ((q.0 - p.0) * (r.1 - q.1)) ((r.0 - q.0) * (q.1 - p.1))

-- the index of the first breakpoint whose segment is faster than the one before; `index` is that of the third breakpoint
abbrev pub first_faster : ℕ → List (ℕ × ℕ) → Option ℕ
first_faster index [] = None
first_faster index (p ∷ []) = None
first_faster index (p ∷ q ∷ []) = None
first_faster index (p ∷ q ∷ r ∷ ps) =
    if is_no_faster p q r then first_faster (index + 1) (q ∷ r ∷ ps) else Some index

-- the last two rules: the curve reaches full, and has no more breakpoints than are allowed
abbrev pub end_fault : ℕ → List (ℕ × ℕ) → Option CurveFault
end_fault full points =
    if nat_le full (last_charge points)
    then (if nat_le (length points) most_breakpoints then None else Some TooMany)
    else Some (Short (last_charge points))

abbrev pub or_concave : Option ℕ → Option CurveFault → Option CurveFault
or_concave None later = later
or_concave (Some index) later = Some (Concave index)

abbrev pub or_rise : Option ℕ → Option CurveFault → Option CurveFault
or_rise None later = later
or_rise (Some index) later = Some (Rise index)

-- the first broken rule, if any
abbrev pub curve_fault : ℕ → List (ℕ × ℕ) → Option CurveFault
curve_fault full points =
    if has_start points
    then or_rise (first_fall 1 points) (or_concave (first_faster 2 points) (end_fault full points))
    else Some Start
