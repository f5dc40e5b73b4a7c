-- The times of a value after an arc, as a list.
use Rattle.std.specs.Prelude.{◌≡◌, ℕ, ◌+◌, ◌<◌, ◌≤◌, List, length, slice_index}
use Rattle.dominance.specs.LevelTimes.{LevelTimes}

-- what of a value's times is left after an arc, from the time number `skipped` on
pub record AreLater (v : LevelTimes) (skipped time limit : ℕ) (times : List ℕ) : Type 0 where
  pub each : (k : ℕ) → k < length times →
      (skipped + k < length v.times) ×
      (slice_index times k ≡ slice_index v.times (skipped + k) + time) ×
      (slice_index v.times (skipped + k) + time ≤ limit)
  pub no_more : (k : ℕ) → skipped + length times ≤ k → k < length v.times →
      limit < slice_index v.times k + time
