-- Whole plans beside plans in a fraction of a unit.
use Rattle.std.specs.Prelude.{ℕ, ◌*◌, ◌≤◌, List}
use Rattle.ev_model.specs.Feasible.{IsFeasible}
use Rattle.ev_model.specs.Network.{Network}
use Rattle.ev_model.specs.Route.{FollowsRoute, route_of}
use Rattle.ev_model.specs.Time.{time_of}
use Rattle.ev_model.specs.declared.Stop.{Stop}

-- a feasible whole plan of the same route that is no slower than a plan in kths
pub record HasWhole (g : Network) (k : ℕ) (plan : List Stop) : Type 0 where
  pub whole : List Stop
  pub feasible : IsFeasible g 1 g.capacity whole
  pub follows : FollowsRoute (route_of plan) whole
  pub no_slower : k * time_of g 1 g.capacity whole ≤ time_of g k g.capacity plan

-- no fraction of a unit is faster: each feasible plan from full has such a whole plan
abbrev pub NoFractionIsFaster : Network → Type 0
NoFractionIsFaster g =
    (k : ℕ) (plan : List Stop) → IsFeasible g k g.capacity plan → HasWhole g k plan
