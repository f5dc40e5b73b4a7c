-- The least time at each of several battery levels.
use Rattle.std.specs.Prelude.{ℕ, ◌+◌, ◌-◌, ◌<◌, ◌≤◌, List, length, slice_index}
use Rattle.std.specs.List.Sorted.{IsNonDecreasing}

-- a first level, and a time for each level from there
pub record LevelTimes : Type 0 where
  pub first : ℕ
  pub times : List ℕ

abbrev pub IsLevel : LevelTimes → ℕ → Type 0
IsLevel v level = (v.first ≤ level) × (level < v.first + length v.times)

abbrev pub time_at : LevelTimes → ℕ → ℕ
time_at v level = slice_index v.times (level - v.first)

-- there is a level, and a higher level takes no less time
pub record IsValue (v : LevelTimes) : Type 0 where
  pub some : 0 < length v.times
  pub rising : IsNonDecreasing v.times
