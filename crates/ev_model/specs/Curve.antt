-- Charging curves and the time to charge: piecewise linear between breakpoints (Montoya, Gueret, Mendoza, Villegas 2017).
-- A breakpoint is a pair: the time from empty, in units of time, and the charge reached by then, in units of charge.
use Rattle.std.specs.Prelude.{◌≡◌, ℕ, ◌+◌, ◌-◌, ◌*◌, ◌/◌, ◌%◌, ◌<◌, ◌≤◌, List, [], ◌∷◌, nat_le, if◌then◌else◌}
use Rattle.std.specs.Int.{◌∣◌}
use Rattle.std.specs.List.{All}

-- the first breakpoint is empty at time 0
abbrev pub BeginsEmpty : List (ℕ × ℕ) → Type 0
BeginsEmpty [] = ⊥
BeginsEmpty (p ∷ ps) = p ≡ (0, 0)

-- both the times and the charges of the breakpoints rise
abbrev pub Rises : List (ℕ × ℕ) → Type 0
Rises [] = Unit {0}
Rises (p ∷ []) = Unit {0}
Rises (p ∷ q ∷ ps) = (p.0 < q.0) × (p.1 < q.1) × Rises (q ∷ ps)

-- the segment from q to r takes at least as long for a unit of charge as the one from p to q
abbrev pub IsNoFaster : ℕ × ℕ → ℕ × ℕ → ℕ × ℕ → Type 0
IsNoFaster p q r = (q.0 - p.0) * (r.1 - q.1) ≤ (r.0 - q.0) * (q.1 - p.1)

-- charge is a concave function of time: no segment is faster than the one before it
abbrev pub IsConcave : List (ℕ × ℕ) → Type 0
IsConcave [] = Unit {0}
IsConcave (p ∷ []) = Unit {0}
IsConcave (p ∷ q ∷ []) = Unit {0}
IsConcave (p ∷ q ∷ r ∷ ps) = IsNoFaster p q r × IsConcave (q ∷ r ∷ ps)

-- the charge of the last breakpoint
abbrev pub last_charge : List (ℕ × ℕ) → ℕ
last_charge [] = 0
last_charge (p ∷ []) = p.1
last_charge (p ∷ q ∷ ps) = last_charge (q ∷ ps)

-- a charging curve that reaches the level full
pub record IsCurve (full : ℕ) (points : List (ℕ × ℕ)) : Type 0 where
  pub begins : BeginsEmpty points
  pub rises : Rises points
  pub concave : IsConcave points
  pub reaches : full ≤ last_charge points

-- d times the slope (time over charge) from p to q is whole: d is a multiple of the slope's denominator in lowest terms
abbrev pub IsMultipleOfSlope : ℕ × ℕ → ℕ × ℕ → ℕ → Type 0
IsMultipleOfSlope p q d = (q.1 - p.1) ∣ (d * (q.0 - p.0))

-- d times each slope is whole, over the segments that begin below the level full
abbrev pub IsMultipleOfSlopes : ℕ → List (ℕ × ℕ) → ℕ → Type 0
IsMultipleOfSlopes full [] d = Unit {0}
IsMultipleOfSlopes full (p ∷ []) d = Unit {0}
IsMultipleOfSlopes full (p ∷ q ∷ ps) d =
    (p.1 < full → IsMultipleOfSlope p q d) × IsMultipleOfSlopes full (q ∷ ps) d

-- d is the denominator of curves: the least common multiple of the denominators of all their slopes in lowest terms, 1 where there is none
pub record IsDenominator (full : ℕ) (curves : List (List (ℕ × ℕ))) (d : ℕ) : Type 0 where
  pub some : 1 ≤ d
  pub multiple : All (λ points. IsMultipleOfSlopes full points d) curves
  pub least : (e : ℕ) → All (λ points. IsMultipleOfSlopes full points e) curves → d ∣ e

-- d times the time from empty to a whole level: linear between neighbouring breakpoints
abbrev pub charge_time : ℕ → List (ℕ × ℕ) → ℕ → ℕ
charge_time d [] level = 0
charge_time d (p ∷ []) level = d * p.0
charge_time d (p ∷ q ∷ ps) level =
    if nat_le level q.1 then d * p.0 + d * (q.0 - p.0) / (q.1 - p.1) * (level - p.1)
    else charge_time d (q ∷ ps) level

-- k * d times the time from empty to a level of z kths of a unit: linear between neighbouring whole levels
unfoldable pub charge_time_in : ℕ → ℕ → List (ℕ × ℕ) → ℕ → ℕ
charge_time_in k d points z =
    k * charge_time d points (z / k)
    + z % k * (charge_time d points (z / k + 1) - charge_time d points (z / k))
