-- What the search answers.
use Rattle.std.specs.Prelude.{◌≡◌, ℕ, ◌+◌, ◌-◌, ◌*◌, ◌<◌, ◌≤◌, List, length, set, slice_get, true, Option, Some, MatchOption}
use Rattle.ev_model.specs.Fastest.{IsFastest}
use Rattle.ev_model.specs.Feasible.{IsFeasible}
use Rattle.ev_model.specs.Network.{Network}
use Rattle.ev_model.specs.Route.{FollowsRoute}
use Rattle.ev_model.specs.Time.{time_from, time_of}
use Rattle.ev_model.specs.declared.Stop.{Stop}
use Rattle.label_pool.specs.Labels.{IsNext, Labels}
use Rattle.label_pool.specs.declared.label.Label.{Label}
use Rattle.route_steps.specs.Homes.{IsBelowHomes}
use Rattle.route_steps.specs.Trips.{Journey}
use Rattle.route_steps.specs.Ways.{IsRest, begin}
use Rattle.route_steps.specs.declared.state.State.{State}

-- a label at the end of the route with a key below a bar, than which no way home takes less time
pub record IsHome (t : Journey) (labels : List (Label State)) (bar i : ℕ) : Type 0 where
  pub label : Label State
  pub here : slice_get labels i ≡ Some label
  pub home : label.value.passed ≡ length t.route - 1
  pub below : label.key < bar
  pub least : (stops : List Stop) → IsRest t.network t.route (begin t.start) stops →
      label.key ≤ 0 + time_from t.network 1 0 t.start stops

-- such a label, or no way home is below the bar
abbrev pub IsHomeOrNone : Journey → List (Label State) → ℕ → Option ℕ → Type 0
IsHomeOrNone t labels bar found = MatchOption found (IsBelowHomes t bar) (IsHome t labels bar)

-- the label that was next is settled now
pub record IsTaken (old now : Labels State) (i : ℕ) : Type 0 where
  pub label : Label State
  pub next : IsNext old.labels i label
  pub is : now ≡ record old { labels = set old.labels i (record label { settled = true }) }

-- no feasible plan of the route, in any fraction of a unit, takes less scaled time than a bar
abbrev pub HasNoneBelow : Network → List ℕ → ℕ → ℕ → Type 0
HasNoneBelow g route start bar =
    (k : ℕ) (stops : List Stop) → IsFeasible g k start stops → FollowsRoute route stops
    → k * bar ≤ time_of g k start stops

-- a fastest plan of the route, which takes less scaled time than a bar
pub record IsFastestBelow (g : Network) (route : List ℕ) (start bar : ℕ)
    (stops : List Stop) : Type 0 where
  pub fastest : IsFastest g route start stops
  pub below : time_of g 1 start stops < bar
