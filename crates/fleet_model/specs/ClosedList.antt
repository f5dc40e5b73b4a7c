-- Lists of labels that are closed under all steps.
use Rattle.std.specs.Prelude.{ℕ, ◌*◌, pos, ◌≤ℤ◌}
use Rattle.std.specs.List.{Contains}
use Rattle.ev_model.specs.Network.{Network}
use Rattle.fleet_model.specs.Labels.{IsLevel, Label, state_at}
use Rattle.fleet_model.specs.Coverage.{IsCovered}
use Rattle.fleet_model.specs.Section.{Section}
use Rattle.fleet_model.specs.Steps.{start, time_at, at_customer, IsCustomerStep, at_station, IsStationStep, IsHomeStep}

-- the start is covered, each step from a label leads to a covered state, and no step home earns more than it
-- takes
pub record IsClosed (g : Network) (s : Section) : Type 0 where
  pub begins : IsCovered s (start g)
  pub customer : (l : Label) (y x : ℕ) → Contains s.labels l → IsLevel l y →
      IsCustomerStep g s (state_at l y) x
      → IsCovered s (at_customer g s (state_at l y) x)
  pub station : (l : Label) (y x z : ℕ) → Contains s.labels l → IsLevel l y →
      IsStationStep g (state_at l y) x z
      → IsCovered s (at_station g (state_at l y) x z)
  pub home : (l : Label) (y : ℕ) → Contains s.labels l → IsLevel l y → IsHomeStep g s (state_at l y)
      → l.paid ≤ℤ pos (s.weight * time_at g (state_at l y) 0)
