-- The least time of a value.
use Rattle.std.proofs.Common.{◌≡◌, ℕ, ◌-◌, ◌<◌, ◌≤◌, length, ap, arith}
use Rattle.std.specs.Prelude.{slice_index}
use Rattle.dominance.specs.LevelTimes.{IsLevel, IsValue, LevelTimes, time_at}

-- the first level has the least time
pub first_is_least : (v : LevelTimes) → IsValue v → (level : ℕ) → IsLevel v level → time_at v v.first ≤ time_at v level
first_is_least v valid level is =
    let zero_gap : v.first - v.first ≡ 0 = omega arith in
    let start : time_at v v.first ≡ slice_index v.times 0 = ap (λ i. slice_index v.times i) zero_gap in
    let inside : level - v.first < length v.times = omega (arith, is.0, is.1) in
    let later : slice_index v.times 0 ≤ slice_index v.times (level - v.first) = valid.rising 0 (level - v.first) 0 (omega arith) inside in
    omega (arith, start, later)

-- a higher level has no less time
pub higher_is_later : (v : LevelTimes) → IsValue v → (low high : ℕ) → IsLevel v low → IsLevel v high → low ≤ high → time_at v low ≤ time_at v high
higher_is_later v valid low high is there up =
    let inside : high - v.first < length v.times = omega (arith, there.0, there.1) in
    valid.rising (low - v.first) (high - v.first) 0 (omega (arith, up)) inside
