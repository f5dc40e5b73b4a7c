-- States of a partial route at the levels of a value, and whether they are covered.
use Rattle.std.specs.Prelude.{◌≡◌, ℕ, Bool, List, MatchBool, Some, slice_get}
use Rattle.dominance.specs.LevelTimes.{IsLevel, time_at}
use Rattle.fleet_model.specs.Coverage.{IsCovered}
use Rattle.fleet_model.specs.Labels.{State}
use Rattle.fleet_model.specs.Section.{Section}
use Rattle.piece_fn.specs.PieceFn.{level_times}
use Rattle.closed_lists.specs.declared.coverage.Target.{Target}

-- the state at a level and a time
abbrev pub state_at : Target → ℕ → ℕ → State
state_at t level time = record {
  last = t.last;
  node = t.node;
  served = t.set;
  paid = t.paid;
  level = level;
  time = time;
}

-- the state at a level of a value, at the value's time there
abbrev pub state_of : Target → List (ℕ × ℕ) → ℕ → State
state_of t value level = state_at t level (time_at (level_times value) level)

-- each state of the value is covered
abbrev pub IsCoveredAll : Section → Target → List (ℕ × ℕ) → Type 0
IsCoveredAll s t value =
    (level : ℕ) → IsLevel (level_times value) level → IsCovered s (state_of t value level)

-- some state of the value is not
abbrev pub IsMissed : Section → Target → List (ℕ × ℕ) → Type 0
IsMissed s t value =
    (level : ℕ) × IsLevel (level_times value) level × (IsCovered s (state_of t value level) → ⊥)

-- whether each state of each of the values is covered
abbrev pub TellsEach : Section → Target → List (List (ℕ × ℕ)) → Bool → Type 0
TellsEach s t values covered = MatchBool covered
    ((k : ℕ) (w : List (ℕ × ℕ)) → slice_get values k ≡ Some w → IsCoveredAll s t w)
    ((k : ℕ) × (w : List (ℕ × ℕ)) × (slice_get values k ≡ Some w) × IsMissed s t w)
