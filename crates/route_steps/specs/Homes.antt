-- What is told of all ways home, and of a plan.
use Rattle.std.specs.Prelude.{ℕ, ◌≤◌, List}
use Rattle.ev_model.specs.Feasible.{IsFeasible}
use Rattle.ev_model.specs.Route.{FollowsRoute}
use Rattle.ev_model.specs.Time.{time_from, time_of}
use Rattle.ev_model.specs.declared.Stop.{Stop}
use Rattle.route_steps.specs.Trips.{Journey}
use Rattle.route_steps.specs.Ways.{IsRest, begin}

abbrev pub NoWayHome : Journey → Type 0
NoWayHome t = (stops : List Stop) → IsRest t.network t.route (begin t.start) stops → ⊥

-- no way home takes less
abbrev pub IsBelowHomes : Journey → ℕ → Type 0
IsBelowHomes t time =
    (stops : List Stop) → IsRest t.network t.route (begin t.start) stops →
    time ≤ time_from t.network 1 0 t.start stops

-- a feasible plan of the route that takes no more than a time
pub record IsPlanWithin (t : Journey) (time : ℕ) (stops : List Stop) : Type 0 where
  pub feasible : IsFeasible t.network 1 t.start stops
  pub follows : FollowsRoute t.route stops
  pub within : time_of t.network 1 t.start stops ≤ time
