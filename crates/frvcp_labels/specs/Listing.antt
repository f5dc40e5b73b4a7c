-- States that take in all that a vehicle may come to on its way along a route.
use Rattle.std.specs.Prelude.{◌≡◌, ℕ, ◌-◌, ◌<◌, ◌≤◌, List, true, length, slice_get, Some}
use Rattle.std.specs.List.{Contains}
use Rattle.charge_curve.specs.Points.{ArePoints}
use Rattle.dominance.specs.LevelTimes.{IsLevel}
use Rattle.ev_model.specs.Network.{Network, scaled_limit}
use Rattle.ev_model.specs.declared.Stop.{Stop}
use Rattle.label_pool.specs.declared.label.Label.{Label}
use Rattle.piece_fn.specs.PieceFn.{level_times}
use Rattle.route_steps.specs.Homes.{IsPlanWithin}
use Rattle.route_steps.specs.Steps.{Holds, IsSoundState, leaving_of}
use Rattle.route_steps.specs.Trips.{Journey}
use Rattle.route_steps.specs.Ways.{Leaving, MayStop, begin, leaving_after}
use Rattle.route_steps.specs.declared.state.State.{State}
use Rattle.frvcp_labels.specs.Search.{Reached}

-- a state that is not at the end of the route, with a value by points
pub record IsStateOnWay (t : Journey) (s : State) : Type 0 where
  pub sound : IsSoundState t.network t.route s
  pub on_way : s.passed < length t.route - 1
  pub valid : ArePoints s.value

-- one of the states holds the vehicle
abbrev pub SomeHolds : List State → Leaving → Type 0
SomeHolds states v = (s : State) × Contains states s × Holds s v

-- the states hold the start, and whatever a stop on the way leads to; and with a stop home of a
-- vehicle of one of them ends a way that takes no less time than some plan of the route
pub record HoldAll (t : Journey) (states : List State) : Type 0 where
  pub begun : SomeHolds states (begin t.start)
  pub next : (s : State) (v : Leaving) (stop : Stop) → Contains states s → Holds s v →
      MayStop t.network t.route v stop →
      (leaving_after t.network v stop).passed < length t.route - 1 →
      SomeHolds states (leaving_after t.network v stop)
  pub home : (s : State) (level : ℕ) (stop : Stop) → Contains states s →
      IsLevel (level_times s.value) level →
      MayStop t.network t.route (leaving_of s level) stop →
      (leaving_after t.network (leaving_of s level) stop).passed ≡ length t.route - 1 →
      (plan : List Stop) ×
      IsPlanWithin t (leaving_after t.network (leaving_of s level) stop).time plan

-- each state is that of a live label
abbrev pub StandForLabels : List (Label State) → List State → Type 0
StandForLabels labels states =
    (s : State) → Contains states s →
    (i : ℕ) × (label : Label State) × (slice_get labels i ≡ Some label) × (label.live ≡ true) ×
    (label.value ≡ s)

-- each vehicle on its way that a live label holds is held by a state
abbrev pub HoldReached : Journey → List (Label State) → List State → Type 0
HoldReached t labels states =
    (v : Leaving) → Reached labels v → v.passed < length t.route - 1 → SomeHolds states v

-- a point is a level of the battery at a time within the limit
abbrev pub IsPointWithin : Network → ℕ × ℕ → Type 0
IsPointWithin g p = (p.0 ≤ g.capacity) × (p.1 ≤ scaled_limit g)
