-- Lists of supporting points, walked and cut.
use Rattle.std.specs.Prelude.{ℕ, ◌+◌, ◌-◌, ◌*◌, ◌/◌, ◌%◌, ◌<◌, ◌≤◌, Bool, true, false, ◌&&◌, ◌||◌, not, List, [], ◌∷◌, ◌++◌, map, max, nat_eq, nat_le, nat_lt, if◌then◌else◌}
use Rattle.std.specs.List.{filter, list_all}
use Rattle.charge_curve.specs.Points.{last_level, slope, time_on}
use Rattle.piece_fn.specs.PieceFn.{first_level}

-- one point may follow another
abbrev pub is_step : ℕ × ℕ → ℕ × ℕ → Bool
is_step p q = nat_lt p.0 q.0 && (nat_le p.1 q.1 && nat_eq ((q.1 - p.1) % (q.0 - p.0)) 0)

abbrev pub are_points : List (ℕ × ℕ) → Bool
are_points [] = false
are_points (p ∷ []) = true
are_points (p ∷ q ∷ ps) = is_step p q && are_points (q ∷ ps)

-- the points from the last one on that is not above a level
abbrev pub from_piece : ℕ → List (ℕ × ℕ) → List (ℕ × ℕ)
from_piece level [] = []
from_piece level (p ∷ []) = p ∷ []
from_piece level (p ∷ q ∷ ps) = if nat_lt level q.0 then p ∷ q ∷ ps else from_piece level (q ∷ ps)

-- a level is below the second point
abbrev pub IsBeforeSecond : ℕ → List (ℕ × ℕ) → Type 0
IsBeforeSecond level [] = Unit {0}
IsBeforeSecond level (p ∷ []) = Unit {0}
IsBeforeSecond level (p ∷ q ∷ ps) = level < q.0

-- a level is not above the second point
abbrev pub IsOnFirst : ℕ → List (ℕ × ℕ) → Type 0
IsOnFirst level [] = Unit {0}
IsOnFirst level (p ∷ []) = Unit {0}
IsOnFirst level (p ∷ q ∷ ps) = level ≤ q.0

-- a point of the other value is reached
abbrev pub point_is_reached : List (ℕ × ℕ) → ℕ → ℕ × ℕ → Bool
point_is_reached own extra p = nat_le (time_on own p.0 + extra) p.1

-- a point among the levels from low to high reaches the other value there
abbrev pub point_reaches : ℕ → ℕ → List (ℕ × ℕ) → ℕ → ℕ × ℕ → Bool
point_reaches low high other extra p =
    not (nat_le low p.0 && nat_le p.0 high) || nat_le (p.1 + extra) (time_on other p.0)

-- the test of coverage at the supporting points of both
abbrev pub covers_at_points : List (ℕ × ℕ) → List (ℕ × ℕ) → ℕ → Bool
covers_at_points own other extra =
    nat_le (last_level other) (last_level own)
    && (list_all (point_is_reached own extra) other
    && list_all (point_reaches (first_level other) (last_level other) other extra) own)

-- points with one at a level in place of those below it, where the level is on their first piece
abbrev pub begun_at : ℕ → List (ℕ × ℕ) → List (ℕ × ℕ)
begun_at level [] = []
begun_at level (p ∷ ps) = (max level p.0, time_on (p ∷ ps) level) ∷ ps

-- points lower by one number, and with times that begin at another
abbrev pub moved : ℕ → ℕ → ℕ → List (ℕ × ℕ) → List (ℕ × ℕ)
moved down zero_time base ps = map (λ p. (p.0 - down, base + (p.1 - zero_time))) ps

-- each point is at least as high and as late
abbrev pub AreAbove : ℕ → ℕ → List (ℕ × ℕ) → Type 0
AreAbove level time [] = Unit {0}
AreAbove level time (p ∷ ps) = (level ≤ p.0) × (time ≤ p.1) × AreAbove level time ps

-- the last point within a limit on a piece that goes past it, where it isn't the first
abbrev pub cut_end : ℕ → ℕ × ℕ → ℕ × ℕ → List (ℕ × ℕ)
cut_end limit p q =
    let levels = (limit - p.1) / slope p q in
    if nat_lt 0 levels then (p.0 + levels, p.1 + slope p q * levels) ∷ [] else []

-- the points after one within a limit, up to the last level within it
abbrev pub tail_to : ℕ → ℕ × ℕ → List (ℕ × ℕ) → List (ℕ × ℕ)
tail_to limit p [] = []
tail_to limit p (q ∷ ps) = if nat_le q.1 limit then q ∷ tail_to limit q ps else cut_end limit p q

abbrev pub up_to : ℕ → List (ℕ × ℕ) → List (ℕ × ℕ)
up_to limit [] = []
up_to limit (p ∷ ps) = p ∷ tail_to limit p ps

-- the levels of the points between two levels
abbrev pub between : ℕ → ℕ → List (ℕ × ℕ) → List ℕ
between low high ps = map (λ p. p.0) (filter (λ p. nat_lt low p.0 && nat_lt p.0 high) ps)

-- the levels of the points, and after each those of the curve before the next
abbrev pub supports : List (ℕ × ℕ) → List (ℕ × ℕ) → List ℕ
supports curve [] = []
supports curve (p ∷ []) = p.0 ∷ []
supports curve (p ∷ q ∷ ps) = p.0 ∷ (between p.0 q.0 curve ++ supports curve (q ∷ ps))
