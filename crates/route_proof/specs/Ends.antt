-- Whether a time of some value is below a bar.
use Rattle.std.specs.Prelude.{◌≡◌, ℕ, ◌<◌, ◌≤◌, Bool, List, MatchBool, Some, slice_get}
use Rattle.dominance.specs.LevelTimes.{IsLevel, time_at}
use Rattle.piece_fn.specs.PieceFn.{level_times}

abbrev pub TellsBelow : List (List (ℕ × ℕ)) → ℕ → Bool → Type 0
TellsBelow values bar below = MatchBool below
    ((k : ℕ) × (w : List (ℕ × ℕ)) × (slice_get values k ≡ Some w) ×
    ((level : ℕ) × IsLevel (level_times w) level × (time_at (level_times w) level < bar)))
    ((k : ℕ) (w : List (ℕ × ℕ)) (level : ℕ) → slice_get values k ≡ Some w →
    IsLevel (level_times w) level → bar ≤ time_at (level_times w) level)
