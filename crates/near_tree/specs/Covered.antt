-- When a label makes a state of a near route needless.
use Rattle.std.specs.Prelude.{ℕ, ◌≤◌}
use Rattle.std.specs.List.{Contains}
use Rattle.ev_model.specs.Network.{Network}
use Rattle.fleet_model.specs.Labels.{IsLevel}
use Rattle.fleet_model.specs.Margins.{Covers}
use Rattle.near_tree.specs.Branches.{Branch}
use Rattle.near_tree.specs.Follows.{StandsFor}
use Rattle.near_tree.specs.Sections.{LeafLabel, NearSection, LeafState}

-- the label's last stands for the state's, and the label is as good as the state at one of its
-- levels: at the same node, remembering nobody else, no lower, no later and at no more cost, which
-- is the weight times the time less what was earned
pub record CoversAtLeaf (g : Network) (b : Branch) (s : NearSection) (l : LeafLabel)
    (a : LeafState) : Type 0 where
  pub last : StandsFor g b s l.last a.last
  pub state : Covers s.weight l.label a.state

-- some label covers the state
abbrev pub IsLeafCovered : Network → Branch → NearSection → LeafState → Type 0
IsLeafCovered g b s a = (l : LeafLabel) × Contains s.labels l × CoversAtLeaf g b s l a

-- no level of a label is above full
abbrev pub AreWithinFullAt : Network → NearSection → Type 0
AreWithinFullAt g s =
    (l : LeafLabel) (y : ℕ) → Contains s.labels l → IsLevel l.label y → y ≤ g.capacity
