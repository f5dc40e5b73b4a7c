-- Labels that are closed under all steps of near routes at a leaf.
use Rattle.std.specs.Prelude.{ℕ, ◌*◌, pos, ◌≤ℤ◌}
use Rattle.std.specs.List.{Contains}
use Rattle.ev_model.specs.Network.{Network}
use Rattle.fleet_model.specs.Labels.{IsLevel}
use Rattle.fleet_model.specs.Steps.{time_at}
use Rattle.near_tree.specs.Branches.{Branch}
use Rattle.near_tree.specs.Covered.{IsLeafCovered}
use Rattle.near_tree.specs.Sections.{LeafLabel, NearSection}
use Rattle.near_tree.specs.Steps.{at_leaf_customer, at_leaf_station, IsLeafCustomerStep, IsLeafHomeStep, IsLeafStationStep, leaf_at, leaf_start}

-- the start is covered, each step from a label to a customer or a station leads to a covered state,
-- and no step home takes, times the weight, less than was earned
pub record AreClosedAt (g : Network) (b : Branch) (s : NearSection) : Type 0 where
  pub begins : IsLeafCovered g b s (leaf_start g)
  pub customer : (l : LeafLabel) (y x : ℕ) → Contains s.labels l → IsLevel l.label y →
      IsLeafCustomerStep g b (leaf_at l y) x →
      IsLeafCovered g b s (at_leaf_customer g b s (leaf_at l y) x)
  pub station : (l : LeafLabel) (y x z : ℕ) → Contains s.labels l → IsLevel l.label y →
      IsLeafStationStep g (leaf_at l y) x z →
      IsLeafCovered g b s (at_leaf_station g (leaf_at l y) x z)
  pub home : (l : LeafLabel) (y : ℕ) → Contains s.labels l → IsLevel l.label y →
      IsLeafHomeStep g b (leaf_at l y) →
      l.label.paid ≤ℤ pos (s.weight * time_at g (leaf_at l y).state 0)
