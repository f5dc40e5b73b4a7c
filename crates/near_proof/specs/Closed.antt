-- Labels that are closed under all steps of near routes.
use Rattle.std.specs.Prelude.{ℕ, ◌*◌, ◌≤◌, List}
use Rattle.std.specs.List.{Contains}
use Rattle.ev_model.specs.Network.{Network}
use Rattle.fleet_model.specs.Labels.{IsLevel}
use Rattle.fleet_model.specs.Steps.{time_at}
use Rattle.near_proof.specs.Covered.{IsNearCovered}
use Rattle.near_proof.specs.States.{label_of, near_at, near_start}
use Rattle.near_proof.specs.Steps.{at_near_customer, at_near_station, IsNearCustomerStep, IsNearHomeStep, IsNearStationStep}
use Rattle.near_proof.specs.Terms.{Terms}
use Rattle.near_proof.specs.declared.proof.NearLabel.{NearLabel}

-- the start is covered, each step from a label to a customer or a station leads to a covered state,
-- and no step home earns more than it takes, from labels without a service too
pub record AreClosed (g : Network) (t : Terms) (labels : List NearLabel) : Type 0 where
  pub begins : IsNearCovered t.weight labels (near_start g)
  pub customer : (l : NearLabel) (y x : ℕ) → Contains labels l → IsLevel (label_of l) y →
      IsNearCustomerStep g (near_at l y) x →
      IsNearCovered t.weight labels (at_near_customer g t (near_at l y) x)
  pub station : (l : NearLabel) (y x z : ℕ) → Contains labels l → IsLevel (label_of l) y →
      IsNearStationStep g (near_at l y) x z →
      IsNearCovered t.weight labels (at_near_station g (near_at l y) x z)
  pub home : (l : NearLabel) (y : ℕ) → Contains labels l → IsLevel (label_of l) y →
      IsNearHomeStep g (near_at l y) →
      l.earned ≤ t.weight * time_at g (near_at l y).state 0
