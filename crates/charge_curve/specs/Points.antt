-- Times at whole levels, given by supporting points (level, time) and linear between them.
use Rattle.std.specs.Prelude.{◌≡◌, ℕ, ◌+◌, ◌-◌, ◌*◌, ◌/◌, ◌%◌, ◌<◌, ◌≤◌, List, [], ◌∷◌, nat_le, if◌then◌else◌}

-- levels rise, times never fall, and each gap of times is a multiple of the gap of levels
abbrev pub ArePoints : List (ℕ × ℕ) → Type 0
ArePoints [] = ⊥
ArePoints (p ∷ []) = Unit {0}
ArePoints (p ∷ q ∷ ps) =
    (p.0 < q.0) × (p.1 ≤ q.1) × ((q.1 - p.1) % (q.0 - p.0) ≡ 0) × ArePoints (q ∷ ps)

abbrev pub last_level : List (ℕ × ℕ) → ℕ
last_level [] = 0
last_level (p ∷ []) = p.0
last_level (p ∷ q ∷ ps) = last_level (q ∷ ps)

-- the time for one level between two points
abbrev pub slope : ℕ × ℕ → ℕ × ℕ → ℕ
slope p q = (q.1 - p.1) / (q.0 - p.0)

-- the time at a level
abbrev pub time_on : List (ℕ × ℕ) → ℕ → ℕ
time_on [] level = 0
time_on (p ∷ []) level = p.1
time_on (p ∷ q ∷ ps) level =
    if nat_le level q.0 then p.1 + slope p q * (level - p.0) else time_on (q ∷ ps) level

-- a level takes no less time on a later piece
abbrev pub IsSlowing : List (ℕ × ℕ) → Type 0
IsSlowing [] = Unit {0}
IsSlowing (p ∷ []) = Unit {0}
IsSlowing (p ∷ q ∷ []) = Unit {0}
IsSlowing (p ∷ q ∷ r ∷ ps) = (slope p q ≤ slope q r) × IsSlowing (q ∷ r ∷ ps)
