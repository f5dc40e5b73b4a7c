-- The rules of a closed list one by one, and which of them is the first that is broken.
use Rattle.std.specs.Prelude.{◌≡◌, ℕ, ◌*◌, ◌<◌, Some, slice_get, ◌⊎◌, pos, ◌<ℤ◌}
use Rattle.ev_model.specs.Network.{Network}
use Rattle.fleet_model.specs.Labels.{IsLevel, Label, state_at}
use Rattle.fleet_model.specs.Coverage.{IsCovered}
use Rattle.fleet_model.specs.Section.{Section}
use Rattle.fleet_model.specs.Steps.{start, time_at, at_customer, IsCustomerStep, at_station, IsStationStep, IsHomeStep}

-- where a list isn't closed: at the start, at the step of a label to a node, or at the step of a label home
pub data ClosedFault : Type 0 where
  at_start : ClosedFault
  at_step : ℕ → ℕ → ClosedFault
  at_home : ℕ → ClosedFault

-- some state that the step to a customer or a station reaches from some level of the label is covered by no
-- label
abbrev pub ReachesUncovered : Network → Section → Label → ℕ → Type 0
ReachesUncovered g s l x =
    (y : ℕ) × (IsLevel l y) × (
    (IsCustomerStep g s (state_at l y) x × (IsCovered s (at_customer g s (state_at l y) x) → ⊥))
    ⊎ ((z : ℕ) × IsStationStep g (state_at l y) x z ×
    (IsCovered s (at_station g (state_at l y) x z) → ⊥))
    )

-- some step home takes, times the weight, less than the label has paid
abbrev pub EarnsAtHome : Network → Section → Label → Type 0
EarnsAtHome g s l =
    (y : ℕ) × (IsLevel l y) × IsHomeStep g s (state_at l y) ×
    (pos (s.weight * time_at g (state_at l y) 0) <ℤ l.paid)

-- a rule is broken there; labels are told by their numbers in the list
abbrev pub IsFault : Network → Section → ClosedFault → Type 0
IsFault g s at_start = IsCovered s (start g) → ⊥
IsFault g s (at_step n x) = (l : Label) × (slice_get s.labels n ≡ Some l) × ReachesUncovered g s l x
IsFault g s (at_home n) = (l : Label) × (slice_get s.labels n ≡ Some l) × EarnsAtHome g s l

-- the start comes first, then all steps, by label and then by node, and then all steps home, by label
abbrev pub ComesBefore : ClosedFault → ClosedFault → Type 0
ComesBefore at_start at_start = ⊥
ComesBefore at_start (at_step n x) = Unit {0}
ComesBefore at_start (at_home n) = Unit {0}
ComesBefore (at_step m x) at_start = ⊥
ComesBefore (at_step m x) (at_step n y) = (m < n) ⊎ ((m ≡ n) × (x < y))
ComesBefore (at_step m x) (at_home n) = Unit {0}
ComesBefore (at_home m) at_start = ⊥
ComesBefore (at_home m) (at_step n y) = ⊥
ComesBefore (at_home m) (at_home n) = m < n

-- the first broken rule
pub record IsFirstFault (g : Network) (s : Section) (fault : ClosedFault) : Type 0 where
  pub broken : IsFault g s fault
  pub first : (other : ClosedFault) → ComesBefore other fault → IsFault g s other → ⊥
