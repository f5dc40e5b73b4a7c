-- The rules of closed labels one by one, and which of them is the first that is broken.
use Rattle.std.specs.Prelude.{◌≡◌, ℕ, ◌<◌, ◌⊎◌, Bool, false, true, List, Some, slice_get}
use Rattle.ev_model.specs.declared.Stop.{Stop}
use Rattle.route_steps.specs.Trips.{Journey}
use Rattle.route_steps.specs.Ways.{begin, leaving_after}
use Rattle.route_proof.specs.Closed.{IsHome, IsOnWay, IsStepFrom}
use Rattle.route_proof.specs.Covered.{IsCovered, vehicle_at}
use Rattle.route_proof.specs.declared.proof.RouteLabel.{RouteLabel}

-- where a rule is broken: at the start, at a step of a label to a node, which is inserted or the next
-- of the route, or at a step of a label home
pub data Place : Type 0 where
  at_start : Place
  at_step : ℕ → ℕ → Bool → Place
  at_home : ℕ → Place

-- a step from a label to the node leads to a vehicle below the bar that is not covered
pub record MissesStep (t : Journey) (bar : ℕ) (labels : List RouteLabel) (l : RouteLabel)
    (node : ℕ) (via : Bool) : Type 0 where
  pub level : ℕ
  pub stop : Stop
  pub step : IsStepFrom t l level stop
  pub node_is : stop.node ≡ node
  pub via_is : stop.via ≡ via
  pub on_way : IsOnWay t (leaving_after t.network (vehicle_at l level) stop).passed
  pub below : (leaving_after t.network (vehicle_at l level) stop).time < bar
  pub uncovered : IsCovered labels (leaving_after t.network (vehicle_at l level) stop) → ⊥

-- a step home from a label ends below the bar
pub record EndsBelow (t : Journey) (bar : ℕ) (l : RouteLabel) : Type 0 where
  pub level : ℕ
  pub stop : Stop
  pub step : IsStepFrom t l level stop
  pub home : IsHome t (leaving_after t.network (vehicle_at l level) stop).passed
  pub below : (leaving_after t.network (vehicle_at l level) stop).time < bar

-- a rule is broken there; labels are told by their numbers in the list
abbrev pub IsBroken : Journey → ℕ → List RouteLabel → Place → Type 0
IsBroken t bar labels at_start = (0 < bar) × (IsCovered labels (begin t.start) → ⊥)
IsBroken t bar labels (at_step n node via) =
    (l : RouteLabel) × (slice_get labels n ≡ Some l) × MissesStep t bar labels l node via
IsBroken t bar labels (at_home n) =
    (l : RouteLabel) × (slice_get labels n ≡ Some l) × EndsBelow t bar l

-- within a label the next node of the route comes first, and then stations by rising node
abbrev pub IsSooner : ℕ → Bool → ℕ → Bool → Type 0
IsSooner x false y false = ⊥
IsSooner x false y true = Unit {0}
IsSooner x true y false = ⊥
IsSooner x true y true = x < y

-- the start comes first, then all steps, by label and within it, and then all steps home, by label
abbrev pub ComesBefore : Place → Place → Type 0
ComesBefore at_start at_start = ⊥
ComesBefore at_start (at_step n node via) = Unit {0}
ComesBefore at_start (at_home n) = Unit {0}
ComesBefore (at_step m x b) at_start = ⊥
ComesBefore (at_step m x b) (at_step n y c) = (m < n) ⊎ ((m ≡ n) × IsSooner x b y c)
ComesBefore (at_step m x b) (at_home n) = Unit {0}
ComesBefore (at_home m) at_start = ⊥
ComesBefore (at_home m) (at_step n y c) = ⊥
ComesBefore (at_home m) (at_home n) = m < n

-- the first broken rule
pub record IsFirstBroken (t : Journey) (bar : ℕ) (labels : List RouteLabel) (at : Place) : Type 0 where
  pub broken : IsBroken t bar labels at
  pub first : (other : Place) → ComesBefore other at → IsBroken t bar labels other → ⊥
