-- The labels of a search, and what it keeps true of them.
use Rattle.std.specs.Prelude.{◌≡◌, ℕ, ◌+◌, ◌-◌, ◌*◌, ◌^◌, ◌<◌, ◌≤◌, ◌⊎◌, true, List, [], ◌∷◌, length, if◌then◌else◌, slice_get, slice_index, Option, None, Some, MatchOption}
use Rattle.ev_model.specs.Network.{node_count}
use Rattle.ev_model.specs.Time.{time_from}
use Rattle.ev_model.specs.declared.Stop.{Stop}
use Rattle.dominance.specs.LevelTimes.{IsLevel, time_at}
use Rattle.label_pool.specs.Labels.{Labels}
use Rattle.label_pool.specs.declared.label.Label.{Label}
use Rattle.piece_fn.specs.PieceFn.{level_times}
use Rattle.route_steps.specs.Homes.{IsPlanWithin}
use Rattle.route_steps.specs.Stations.{stations}
use Rattle.route_steps.specs.Steps.{Holds, IsSoundState, IsStep, leaving_of, state_at}
use Rattle.route_steps.specs.Trips.{IsTrip, Journey}
use Rattle.route_steps.specs.Ways.{IsRest, Leaving, MayStop, leaving_after, passed_after}
use Rattle.route_steps.specs.declared.state.State.{State}

-- the state at the depot, about to leave
pub record IsStart (t : Journey) (s : State) : Type 0 where
  pub passed : s.passed ≡ 0
  pub node : s.node ≡ 0
  pub value : s.value ≡ (t.start, 0) ∷ []

-- the state is the start, or one step from the label that it was come to from
abbrev pub HasOrigin : Journey → List (Label State) → Option ℕ → State → Type 0
HasOrigin t labels parent s =
    MatchOption parent (IsStart t s) (λ p. (from : Label State) × (slice_get labels p ≡ Some from) ×
    IsStep t.network t.route from.value s)

-- no way home of a vehicle of the state takes less time
abbrev pub IsBelowWays : Journey → State → ℕ → Type 0
IsBelowWays t s time =
    (v : Leaving) (stops : List Stop) → Holds s v → IsRest t.network t.route v stops →
    time ≤ v.time + time_from t.network 1 v.node v.level stops

-- with whatever stops a vehicle of the state comes home, some plan of the route takes no more time
abbrev pub HasPlans : Journey → State → Type 0
HasPlans t s =
    (level time : ℕ) (stops : List Stop) → IsLevel (level_times s.value) level →
    IsRest t.network t.route (leaving_of s level) stops →
    time_at (level_times s.value) level + time_from t.network 1 s.node level stops ≤ time →
    (plan : List Stop) × IsPlanWithin t time plan

-- a label has a sound state, its bucket, a key that no way home is below, which at the route's end
-- is its least time, an origin, and plans
pub record IsSound (t : Journey) (labels : List (Label State)) (label : Label State) : Type 0 where
  pub state : IsSoundState t.network t.route label.value
  pub bucket : label.bucket ≡ label.value.passed * node_count t.network + label.value.node
  pub first : IsLevel (level_times label.value.value) (level_times label.value.value).first
  pub least : (level : ℕ) → IsLevel (level_times label.value.value) level →
      time_at (level_times label.value.value) (level_times label.value.value).first
      ≤ time_at (level_times label.value.value) level
  pub below : IsBelowWays t label.value label.key
  pub home : label.value.passed ≡ length t.route - 1 → label.key
      ≡ time_at (level_times label.value.value) (level_times label.value.value).first
  pub origin : HasOrigin t labels label.parent label.value
  pub plans : HasPlans t label.value

abbrev pub AreSound : Journey → List (Label State) → Type 0
AreSound t labels =
    (i : ℕ) (label : Label State) → slice_get labels i ≡ Some label → IsSound t labels label

pub record IsSoundPool (t : Journey) (pool : Labels State) : Type 0 where
  pub trip : IsTrip t.network t.route
  pub labels : AreSound t pool.labels
  pub buckets : pool.buckets ≡ length t.route * node_count t.network
  pub few : length t.route * node_count t.network < 2 ^ 64

-- a live label holds the vehicle
pub record Reached (labels : List (Label State)) (v : Leaving) : Type 0 where
  pub by : ℕ
  pub label : Label State
  pub here : slice_get labels by ≡ Some label
  pub live : label.live ≡ true
  pub holds : Holds label.value v

-- how many labels are settled
abbrev pub settled_count : List (Label State) → ℕ
settled_count [] = 0
settled_count (l ∷ ls) = (if l.settled then 1 else 0) + settled_count ls

-- labels have come to others, which stay but may be live no longer; none was settled meanwhile
pub record IsGrown (old now : List (Label State)) : Type 0 where
  pub stays : (i : ℕ) (label : Label State) → slice_get old i ≡ Some label →
      (other : Label State) × (slice_get now i ≡ Some other) × (other.value ≡ label.value)
  pub were : (i : ℕ) (label : Label State) → slice_get now i ≡ Some label → label.settled ≡ true →
      (other : Label State) × (slice_get old i ≡ Some other) × (other.settled ≡ true) ×
      (other.value ≡ label.value)
  pub keeps : (v : Leaving) → Reached old v → Reached now v
  pub count : settled_count now ≡ settled_count old

-- each stop at that node that a vehicle of the state may make leads to one that is reached
abbrev pub SpreadsTo : Journey → List (Label State) → State → ℕ → ℕ → Type 0
SpreadsTo t labels s passed to =
    (v : Leaving) (stop : Stop) → Holds s v → MayStop t.network t.route v stop → stop.node ≡ to →
    passed_after v.passed stop ≡ passed → Reached labels (leaving_after t.network v stop)

-- no way home of a vehicle is below the bar, if there is one
abbrev pub IsLate : Journey → Option ℕ → Leaving → Type 0
IsLate t None v = ⊥
IsLate t (Some bar) v =
    (stops : List Stop) → IsRest t.network t.route v stops →
    bar ≤ v.time + time_from t.network 1 v.node v.level stops

-- whatever stop at that node a vehicle of the state may make, no way home from there is
abbrev pub IsLateTo : Journey → Option ℕ → State → ℕ → ℕ → Type 0
IsLateTo t bar s passed to =
    (v : Leaving) (stop : Stop) → Holds s v → MayStop t.network t.route v stop → stop.node ≡ to →
    passed_after v.passed stop ≡ passed → IsLate t bar (leaving_after t.network v stop)

-- each stop there leads to one that is reached, or to none from where a way home is below the bar
abbrev pub SpreadsInTimeTo : Journey → List (Label State) → Option ℕ → State → ℕ → ℕ → Type 0
SpreadsInTimeTo t labels bar s passed to =
    SpreadsTo t labels s passed to ⊎ IsLateTo t bar s passed to

-- so does each stop at a station, where the stop is inserted
abbrev pub SpreadsToStations : Journey → List (Label State) → Option ℕ → State → Type 0
SpreadsToStations t labels bar s = (n : ℕ) → n < length (stations t.network)
    → SpreadsInTimeTo t labels bar s s.passed (slice_index (stations t.network) n)

-- so does each stop that a vehicle of the state may make
abbrev pub Spreads : Journey → List (Label State) → Option ℕ → State → Type 0
Spreads t labels bar s =
    (v : Leaving) (stop : Stop) → Holds s v → MayStop t.network t.route v stop →
    Reached labels (leaving_after t.network v stop) ⊎ IsLate t bar (leaving_after t.network v stop)

-- each settled label spreads and is on its way, and the start is reached
pub record IsSpread (t : Journey) (labels : List (Label State)) (bar : Option ℕ)
    (first : Leaving) : Type 0 where
  pub spreads : (i : ℕ) (label : Label State) → slice_get labels i ≡ Some label →
      label.settled ≡ true → Spreads t labels bar label.value
  pub on_way : (i : ℕ) (label : Label State) → slice_get labels i ≡ Some label →
      label.settled ≡ true → label.value.passed < length t.route - 1
  pub begun : Reached labels first

-- each settled label that is on its way spreads, whatever the ways home, and the start is reached
pub record IsSpreadOnWay (t : Journey) (labels : List (Label State))
    (first : Leaving) : Type 0 where
  pub spreads : (i : ℕ) (label : Label State) → slice_get labels i ≡ Some label →
      label.settled ≡ true → label.value.passed < length t.route - 1 →
      Spreads t labels None label.value
  pub begun : Reached labels first

-- what a vehicle of each of the values does is reached
abbrev pub AreReached : List (Label State) → ℕ → ℕ → List (List (ℕ × ℕ)) → Type 0
AreReached labels passed to values =
    (k : ℕ) (w : List (ℕ × ℕ)) → slice_get values k ≡ Some w → (v : Leaving) →
    Holds (state_at passed to k w) v → Reached labels v
