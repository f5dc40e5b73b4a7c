-- States of a near route at the levels of a value, and whether labels cover them.
use Rattle.std.specs.Prelude.{◌≡◌, ℕ, Bool, List, MatchBool, Some, pos, slice_get}
use Rattle.label_steps.specs.Covering.{IsCoveredAll, IsMissed}
use Rattle.piece_fn.specs.PieceFn.{level_times}
use Rattle.near_proof.specs.Covered.{CoversNear, IsNearCovered}
use Rattle.near_proof.specs.States.{NearState}
use Rattle.near_proof.specs.declared.proof.NearLabel.{NearLabel}
use Rattle.near_proof.specs.declared.coverage.Target.{Target}

-- the state at a level and a time
abbrev pub state_at : Target → ℕ → ℕ → NearState
state_at t level time = record {
  state = record {
    last = 0;
    node = t.node;
    served = t.memory;
    paid = pos t.earned;
    level = level;
    time = time;
  };
  count = t.count;
}

-- the label covers the state with a level at a time
abbrev pub covers_by : ℕ → NearLabel → Target → ℕ → ℕ → Type 0
covers_by weight l t level time = CoversNear weight l (state_at t level time)

-- the states of a target, asked of labels
pub record Asking : Type 0 where
  pub weight : ℕ
  pub labels : List NearLabel
  pub target : Target

-- some label covers it
abbrev pub covers : Asking → ℕ → ℕ → Type 0
covers a level time = IsNearCovered a.weight a.labels (state_at a.target level time)

-- whether each state of each of the values is covered
abbrev pub TellsEach : Asking → List (List (ℕ × ℕ)) → Bool → Type 0
TellsEach a values covered = MatchBool covered
    ((k : ℕ) (w : List (ℕ × ℕ)) → slice_get values k ≡ Some w →
    IsCoveredAll (covers a) (level_times w))
    ((k : ℕ) × (w : List (ℕ × ℕ)) × (slice_get values k ≡ Some w)
    × IsMissed (covers a) (level_times w))
