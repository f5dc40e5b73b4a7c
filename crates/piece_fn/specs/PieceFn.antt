-- Label values by few supporting points (level, time), between which times are linear.
use Rattle.std.specs.Prelude.{◌≡◌, ◌↔◌, ℕ, ◌+◌, ◌-◌, ◌≤◌, Bool, ◌||◌, List, [], ◌∷◌, map, max, nat_eq}
use Rattle.std.specs.List.{AllZip, filter, list_any, range_with_len}
use Rattle.charge_curve.specs.Points.{last_level, time_on}
use Rattle.dominance.specs.Coverage.{levels_of, Reaches}
use Rattle.dominance.specs.LevelTimes.{IsLevel, LevelTimes, time_at}
use Rattle.dominance.specs.Steps.{IsChargeFrom}

abbrev pub first_level : List (ℕ × ℕ) → ℕ
first_level [] = 0
first_level (p ∷ ps) = p.0

-- the time at each level from the first to the last
unfoldable pub level_times : List (ℕ × ℕ) → LevelTimes
level_times points =
    record {
      first = first_level points;
      times = map (time_on points)
          (range_with_len (first_level points) (last_level points + 1 - first_level points));
    }

-- a supporting point is at this level
abbrev pub is_support : List (ℕ × ℕ) → ℕ → Bool
is_support points level = list_any (λ p. nat_eq p.0 level) points

-- the levels of a value, in rising order, at which it or the curve has a supporting point
unfoldable pub starts : List (ℕ × ℕ) → List (ℕ × ℕ) → List ℕ
starts points curve =
    filter (λ level. is_support points level
    || is_support curve level) (levels_of (level_times points))

-- the value unchanged, and then for each of some levels what becomes of the value by charging from there
abbrev pub IsChargedFrom : List (ℕ × ℕ) → List (ℕ × ℕ) → ℕ → List ℕ → List (List (ℕ × ℕ)) → Type 0
IsChargedFrom points curve limit levels [] = ⊥
IsChargedFrom points curve limit levels (unchanged ∷ charged) =
    (unchanged ≡ points) ×
    AllZip (λ from after.
    IsChargeFrom (level_times points) curve limit from (level_times after)) levels charged

-- where these levels are all that `starts` names
abbrev pub IsChargeList : List (ℕ × ℕ) → List (ℕ × ℕ) → ℕ → List (List (ℕ × ℕ)) → Type 0
IsChargeList points curve limit values =
    IsChargedFrom points curve limit (starts points curve) values

-- the greatest level up to which each level of the other value is reached
pub record IsReach (own other : LevelTimes) (extra from to : ℕ) : Type 0 where
  pub up : from ≤ to
  pub ends : IsLevel other to
  pub reached : (level : ℕ) → from ≤ level → level ≤ to →
      Reaches own extra level (time_at other level)
  pub stops : IsLevel other (to + 1) → Reaches own extra (to + 1) (time_at other (to + 1)) → ⊥

-- w is v without its levels below one
pub record IsCut (least : ℕ) (v w : LevelTimes) : Type 0 where
  pub begins : w.first ≡ max least v.first
  pub left : (level : ℕ) → IsLevel w level ↔ (IsLevel v level × (least ≤ level))
  pub same : (level : ℕ) → IsLevel w level → time_at w level ≡ time_at v level
