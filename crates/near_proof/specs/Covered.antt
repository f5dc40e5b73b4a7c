-- When a label makes a state of a near route needless.
use Rattle.std.specs.Prelude.{ℕ, ◌≤◌, List}
use Rattle.std.specs.List.{Contains}
use Rattle.ev_model.specs.Network.{Network}
use Rattle.fleet_model.specs.Labels.{IsLevel}
use Rattle.fleet_model.specs.Margins.{Covers}
use Rattle.near_proof.specs.States.{label_of, NearState}
use Rattle.near_proof.specs.declared.proof.NearLabel.{NearLabel}

-- the label is as good as the state at one of its levels, after no more services
abbrev pub CoversNear : ℕ → NearLabel → NearState → Type 0
CoversNear weight l b = (l.count ≤ b.count) × Covers weight (label_of l) b.state

-- some label covers the state
abbrev pub IsNearCovered : ℕ → List NearLabel → NearState → Type 0
IsNearCovered weight labels b = (l : NearLabel) × Contains labels l × CoversNear weight l b

-- no level of a label is above full
abbrev pub AreWithinFull : Network → List NearLabel → Type 0
AreWithinFull g labels =
    (l : NearLabel) (y : ℕ) → Contains labels l → IsLevel (label_of l) y → y ≤ g.capacity
