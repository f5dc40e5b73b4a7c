-- States at the levels of a value, and whether they are covered, by what is told of a level and a time.
use Rattle.std.specs.Prelude.{ℕ, ◌≤◌}
use Rattle.dominance.specs.LevelTimes.{IsLevel, LevelTimes, time_at}

-- each state from one level of the value to another is covered
pub record IsCoveredTo (covers : ℕ → ℕ → Type 0) (v : LevelTimes) (from to : ℕ) : Type 0 where
  pub up : from ≤ to
  pub ends : IsLevel v to
  pub covered : (level : ℕ) → from ≤ level → level ≤ to → covers level (time_at v level)

-- each state of the value is covered
abbrev pub IsCoveredAll : (ℕ → ℕ → Type 0) → LevelTimes → Type 0
IsCoveredAll covers v = (level : ℕ) → IsLevel v level → covers level (time_at v level)

-- some state of the value is not
abbrev pub IsMissed : (ℕ → ℕ → Type 0) → LevelTimes → Type 0
IsMissed covers v =
    (level : ℕ) × IsLevel v level × (covers level (time_at v level) → ⊥)
