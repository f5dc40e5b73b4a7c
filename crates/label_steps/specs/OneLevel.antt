-- A value with one level.
use Rattle.std.specs.Prelude.{ℕ, [], ◌∷◌}
use Rattle.dominance.specs.LevelTimes.{LevelTimes}

abbrev pub one_level : ℕ → ℕ → LevelTimes
one_level level time = record { first = level; times = time ∷ [] }
