-- What the tests of one label tell.
use Rattle.std.specs.Prelude.{ℕ, ◌<◌, Bool, false, true, List, Option, None, Some, MatchBool, nat_eq, slice_get, ◌≡◌}
use Rattle.label_steps.specs.Covering.{IsCoveredAll, IsMissed}
use Rattle.piece_fn.specs.PieceFn.{level_times}
use Rattle.route_steps.specs.declared.state.Place.{Place}
use Rattle.route_steps.specs.declared.state.State.{State}
use Rattle.route_proof.specs.Broken.{EndsBelow, IsSooner, MissesStep}
use Rattle.route_proof.specs.declared.proof.RouteLabel.{RouteLabel}
use Rattle.route_proof.specs.Asking.{covers}
use Rattle.route_proof.specs.Questions.{Question}
use Rattle.route_proof.specs.declared.steps.Missed.{Missed}

-- the state of a label
abbrev pub state_of : RouteLabel → State
state_of l = record { passed = l.passed; node = l.node; charged = false; value = l.value }

-- whether each level below the bar of each of the values is covered at a place
abbrev pub TellsEach : Question → Place → List (List (ℕ × ℕ)) → Bool → Type 0
TellsEach q p values covered = MatchBool covered
    ((k : ℕ) (w : List (ℕ × ℕ)) → slice_get values k ≡ Some w →
    IsCoveredAll (covers q p) (level_times w))
    ((k : ℕ) × (w : List (ℕ × ℕ)) × (slice_get values k ≡ Some w) ×
    IsMissed (covers q p) (level_times w))

-- a step from the label to the node leads to a vehicle below the bar that is not covered
abbrev pub Misses : Question → RouteLabel → ℕ → Bool → Type 0
Misses q l node via = MissesStep q.journey q.bar q.labels l node via

-- whether each vehicle below the bar is covered to which a step to a place leads
abbrev pub TellsStep : Question → RouteLabel → Place → Bool → Type 0
TellsStep q l to covered = MatchBool covered
    (Misses q l to.node (nat_eq l.passed to.passed) → ⊥)
    (Misses q l to.node (nat_eq l.passed to.passed))

-- the node, if there is one, to which a step as the next of the route leads to such a vehicle
abbrev pub TellsNext : Question → RouteLabel → Option ℕ → Type 0
TellsNext q l None = (x : ℕ) → Misses q l x false → ⊥
TellsNext q l (Some node) = Misses q l node false

-- the same for the steps to a node as an inserted station
abbrev pub TellsInserted : Question → RouteLabel → ℕ → Bool → Type 0
TellsInserted q l node covered =
    MatchBool covered (Misses q l node true → ⊥) (Misses q l node true)

-- the first station to which a step leads to a vehicle that is not covered
abbrev pub TellsStation : Question → RouteLabel → Option ℕ → Type 0
TellsStation q l None = (x : ℕ) → Misses q l x true → ⊥
TellsStation q l (Some node) =
    Misses q l node true × ((x : ℕ) → x < node → Misses q l x true → ⊥)

-- the first of all such steps
abbrev pub TellsFirst : Question → RouteLabel → Option Missed → Type 0
TellsFirst q l None = (x : ℕ) (via : Bool) → Misses q l x via → ⊥
TellsFirst q l (Some m) =
    Misses q l m.node m.via ×
    ((x : ℕ) (via : Bool) → IsSooner x via m.node m.via → Misses q l x via → ⊥)

-- whether a step home ends below the bar
abbrev pub TellsHome : Question → RouteLabel → Bool → Type 0
TellsHome q l below =
    MatchBool below (EndsBelow q.journey q.bar l) (EndsBelow q.journey q.bar l → ⊥)
