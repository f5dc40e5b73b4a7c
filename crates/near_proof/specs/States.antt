-- Where a vehicle is on a near route, and the labels that stand for such states.
use Rattle.std.specs.Prelude.{ℕ, pos}
use Rattle.ev_model.specs.Network.{Network}
use Rattle.fleet_model.specs.Labels.{Label, State, state_at}
use Rattle.fleet_model.specs.Steps.{start}
use Rattle.piece_fn.specs.PieceFn.{level_times}
use Rattle.near_proof.specs.declared.proof.NearLabel.{NearLabel}

-- a state with how many services there were. Its `served` are those who are remembered, its
-- `paid` is what is earned; `last` is 0
pub record NearState : Type 0 where
  pub state : State
  pub count : ℕ

-- at the depot with a full battery, before any service
abbrev pub near_start : Network → NearState
near_start g = record { state = start g; count = 0 }

-- a label with a time at each level
abbrev pub label_of : NearLabel → Label
label_of l = record {
  last = 0;
  node = l.node;
  served = l.memory;
  paid = pos l.earned;
  first = (level_times l.value).first;
  times = (level_times l.value).times;
}

-- the state of a label at one of its levels
abbrev pub near_at : NearLabel → ℕ → NearState
near_at l y = record { state = state_at (label_of l) y; count = l.count }
