-- When one value makes another needless.
use Rattle.std.specs.Prelude.{ℕ, ◌+◌, ◌≤◌, Bool, ◌&&◌, List, length, nat_le}
use Rattle.std.specs.List.{Any, list_all, list_any, range_with_len}
use Rattle.dominance.specs.LevelTimes.{IsLevel, LevelTimes, time_at}

-- some level at least as high has a time that is no later, after `extra`
abbrev pub Reaches : LevelTimes → ℕ → ℕ → ℕ → Type 0
Reaches v extra level time =
    (high : ℕ) × IsLevel v high × ((level ≤ high) × (time_at v high + extra ≤ time))

-- each level of the other value is reached
abbrev pub CoversEach : LevelTimes → LevelTimes → ℕ → Type 0
CoversEach own other extra =
    (level : ℕ) → IsLevel other level → Reaches own extra level (time_at other level)

-- the levels in rising order
abbrev pub levels_of : LevelTimes → List ℕ
levels_of v = range_with_len v.first (length v.times)

-- the same as tests
abbrev pub does_reach : LevelTimes → ℕ → ℕ → ℕ → Bool
does_reach v extra level time =
    list_any (λ high. nat_le level high && nat_le (time_at v high + extra) time) (levels_of v)

unfoldable pub does_cover : LevelTimes → LevelTimes → ℕ → Bool
does_cover own other extra =
    list_all (λ level. does_reach own extra level (time_at other level)) (levels_of other)

module _ {V : Type 0} where
  -- one of several values reaches a level
  abbrev pub SomeReaches : (V → LevelTimes) → List V → ℕ → ℕ → ℕ → Type 0
  SomeReaches meaning values extra level time =
      Any (λ value. Reaches (meaning value) extra level time) values
