-- The value with one point.
use Rattle.std.proofs.Common.{◌≡◌, ◌∙◌, ℕ, ◌+◌, ◌-◌, [], ◌∷◌, length, map, arith}
use Rattle.std.proofs.lemmas.List.{length-map}
use Rattle.std.proofs.lemmas.List.FromFn.{length-range_with_len}
use Rattle.std.specs.List.{range_with_len}
use Rattle.charge_curve.specs.Points.{time_on}
use Rattle.dominance.specs.LevelTimes.{IsLevel, time_at}
use Rattle.piece_fn.proofs.Levels.{time_at-level_times}
use Rattle.piece_fn.specs.PieceFn.{level_times}

point_count : (q time : ℕ) → length (map (time_on ((q, time) ∷ [])) (range_with_len q (q + 1 - q))) ≡ 1
point_count q time = length-map (range_with_len q (q + 1 - q)) (time_on ((q, time) ∷ [])) ∙ length-range_with_len q (q + 1 - q) ∙ omega arith

pub start_level : (q time level : ℕ) → IsLevel (level_times ((q, time) ∷ [])) level → level ≡ q
unfolding level_times
start_level q time level is = let count = point_count q time in omega (arith, is.0, is.1, count)

pub has_start : (q time : ℕ) → IsLevel (level_times ((q, time) ∷ [])) q
unfolding level_times
has_start q time = let count = point_count q time in (omega arith, omega (arith, count))

pub start_time : (q level : ℕ) → IsLevel (level_times ((q, 0) ∷ [])) level → time_at (level_times ((q, 0) ∷ [])) level ≡ 0
start_time q level is = time_at-level_times ((q, 0) ∷ []) level (record {}) is
