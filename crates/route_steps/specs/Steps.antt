-- Steps of a vehicle along a route, for each level of a value at once.
use Rattle.std.specs.Prelude.{◌≡◌, ℕ, ◌+◌, ◌-◌, ◌<◌, ◌≤◌, ◌⊎◌, List, length, nat_eq, nat_lt, if◌then◌else◌, slice_get, slice_index, Some}
use Rattle.std.specs.Option.{IsSome}
use Rattle.ev_model.specs.Network.{Network, curve_at, energy, node_count, scaled_limit}
use Rattle.ev_model.specs.Levels.{leaving_level}
use Rattle.ev_model.specs.Time.{stop_time}
use Rattle.ev_model.specs.declared.Stop.{Stop}
use Rattle.dominance.specs.Coverage.{Reaches, SomeReaches}
use Rattle.dominance.specs.LevelTimes.{IsLevel, time_at}
use Rattle.piece_fn.specs.PieceFn.{level_times}
use Rattle.route_steps.specs.Ways.{Leaving, MayStop, leaving_after, passed_after}
use Rattle.route_steps.specs.declared.state.Place.{Place}
use Rattle.route_steps.specs.declared.state.State.{State}

-- the state is at a place, with a value
pub record StandsAt (p : Place) (points : List (ℕ × ℕ)) (s : State) : Type 0 where
  pub passed : s.passed ≡ p.passed
  pub node : s.node ≡ p.node
  pub value : s.value ≡ points

-- the vehicle of a state with one of its levels
abbrev pub leaving_of : State → ℕ → Leaving
leaving_of s level =
    record {
      passed = s.passed;
      node = s.node;
      level = level;
      time = time_at (level_times s.value) level;
    }

-- the state is where the vehicle is, and has a level at least as high that is no later
pub record Holds (s : State) (v : Leaving) : Type 0 where
  pub passed : s.passed ≡ v.passed
  pub node : s.node ≡ v.node
  pub reaches : Reaches (level_times s.value) 0 v.level v.time

-- what is charged on the step to a level of a state, which is charged from its first level or not at all
abbrev pub added_at : State → ℕ → ℕ
added_at to level = if to.charged then level - (level_times to.value).first else 0

abbrev pub stop_at : State → State → ℕ → Stop
stop_at from to level =
    record { node = to.node; added = added_at to level; via = nat_eq from.passed to.passed }

-- the level on leaving the state before
abbrev pub level_before : Network → State → State → ℕ → ℕ
level_before g from to level = level - added_at to level + energy g from.node to.node

-- each level of a state is come to by a stop, from a level of the state before, no later than the state says
pub record IsStep (g : Network) (route : List ℕ) (from to : State) : Type 0 where
  pub passed : (level : ℕ) → passed_after from.passed (stop_at from to level) ≡ to.passed
  pub comes : (level : ℕ) → IsLevel (level_times to.value) level →
      IsLevel (level_times from.value) (level_before g from to level)
  pub may : (level : ℕ) → IsLevel (level_times to.value) level →
      MayStop g route (leaving_of from (level_before g from to level))
      (stop_at from to level)
  pub leaves : (level : ℕ) → IsLevel (level_times to.value) level →
      leaving_level g 1 from.node (level_before g from to level)
      (stop_at from to level) ≡ level
  pub no_later : (level : ℕ) → IsLevel (level_times to.value) level
      → time_at (level_times from.value) (level_before g from to level)
      + stop_time g 1 from.node (level_before g from to level)
      (stop_at from to level) ≤ time_at (level_times to.value) level

pub record IsSoundState (g : Network) (route : List ℕ) (s : State) : Type 0 where
  pub passed : s.passed < length route
  pub node : s.node < node_count g
  pub levels : (level : ℕ) → IsLevel (level_times s.value) level → level ≤ g.capacity
  pub times : (level : ℕ) → IsLevel (level_times s.value) level →
      time_at (level_times s.value) level ≤ scaled_limit g

-- a step may lead from a node of the route to that node, once so much was passed
pub record MayGo (g : Network) (route : List ℕ) (before passed to : ℕ) : Type 0 where
  pub on_way : before < length route - 1
  pub known : to < node_count g
  pub leads : ((passed ≡ before) × IsSome (curve_at g to)) ⊎
      ((passed ≡ before + 1) × (slice_index route passed ≡ to))

-- the state of the value with a number among those at a node: the first is passed through with, the others are charged
abbrev pub state_at : ℕ → ℕ → ℕ → List (ℕ × ℕ) → State
state_at passed to k value =
    record { passed = passed; node = to; charged = nat_lt 0 k; value = value }

-- each of the values makes a state that one step leads to
pub record IsSoundStep (g : Network) (route : List ℕ) (from to : State) : Type 0 where
  pub state : IsSoundState g route to
  pub step : IsStep g route from to

abbrev pub AreSteps : Network → List ℕ → State → ℕ → ℕ → List (List (ℕ × ℕ)) → Type 0
AreSteps g route from passed to values =
    (k : ℕ) (w : List (ℕ × ℕ)) → slice_get values k ≡ Some w →
    IsSoundStep g route from (state_at passed to k w)

-- each stop at the node that a vehicle of the state may make is covered by one of the values
abbrev pub CoverStops : Network → List ℕ → State → ℕ → ℕ → List (List (ℕ × ℕ)) → Type 0
CoverStops g route from passed to values =
    (v : Leaving) (stop : Stop) → Holds from v → MayStop g route v stop → stop.node ≡ to →
    passed_after v.passed stop ≡ passed
    → SomeReaches level_times values 0 (leaving_after g v stop).level
    (leaving_after g v stop).time
