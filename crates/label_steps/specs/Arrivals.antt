-- What is left of a value on arriving at a node.
use Rattle.std.specs.Prelude.{◌≡◌, ◌↔◌, ℕ, ◌+◌, ◌*◌, ◌<◌, ◌≤◌, List, Option, None, Some}
use Rattle.dominance.specs.Coverage.{CoversEach}
use Rattle.dominance.specs.LevelTimes.{IsLevel, LevelTimes, time_at}
use Rattle.ev_model.specs.Network.{energy, Network, process_time, scaled_limit, travel_time}
use Rattle.piece_fn.specs.PieceFn.{level_times}
use Rattle.label_steps.specs.OneLevel.{one_level}

-- a vehicle with that level at that time is covered: the value has a level at least as high, no later
abbrev pub CoversVehicle : LevelTimes → ℕ → ℕ → Type 0
CoversVehicle v level time = CoversEach v (one_level level time) 0

-- w is what is left of v after an arc: each level that is at least `least` after it, at a time within the limit
pub record IsArrival (energy time limit least : ℕ) (v w : LevelTimes) : Type 0 where
  pub left : (level : ℕ) → IsLevel w level ↔
      (IsLevel v (level + energy) × (least ≤ level) × (time_at v (level + energy) + time ≤ limit))
  pub later : (level : ℕ) → IsLevel w level → time_at w level ≡ time_at v (level + energy) + time

-- nothing is left
abbrev pub NoArrival : ℕ → ℕ → ℕ → ℕ → LevelTimes → Type 0
NoArrival energy time limit least v =
    (level : ℕ) → IsLevel v level → energy + least ≤ level → limit < time_at v level + time

-- the scaled time of an arc and of the visit at its end, without plugging in and charging
abbrev pub drive_time : Network → ℕ → ℕ → ℕ
drive_time g from to = g.denominator * (travel_time g from to + process_time g to)

-- what is left of a value on arriving at a node from another, at a level that is at least `least`
abbrev pub ArrivesAs : Network → List (ℕ × ℕ) → ℕ → ℕ → ℕ → Option (List (ℕ × ℕ)) → Type 0
ArrivesAs g v from to least None =
    NoArrival (energy g from to) (drive_time g from to) (scaled_limit g) least (level_times v)
ArrivesAs g v from to least (Some w) =
    IsArrival (energy g from to) (drive_time g from to) (scaled_limit g) least
    (level_times v) (level_times w)

-- no level of a value is above full, and no time past the limit
pub record IsWithin (g : Network) (w : List (ℕ × ℕ)) : Type 0 where
  pub levels : (level : ℕ) → IsLevel (level_times w) level → level ≤ g.capacity
  pub times : (level : ℕ) → IsLevel (level_times w) level →
      time_at (level_times w) level ≤ scaled_limit g
