-- The fastest plan of a given route, the answer of the fixed-route vehicle charging problem
-- (Froger, Mendoza, Jabali, Laporte 2019), over all fractions of a unit of charge.
use Rattle.std.specs.Prelude.{ℕ, ◌*◌, ◌≤◌, List}
use Rattle.ev_model.specs.Network.{Network}
use Rattle.ev_model.specs.Feasible.{IsFeasible}
use Rattle.ev_model.specs.Route.{FollowsRoute}
use Rattle.ev_model.specs.Time.{time_of}
use Rattle.ev_model.specs.declared.Stop.{Stop}

-- a feasible whole plan of the route than which no feasible plan of the route, in any fraction of a unit, is faster
pub record IsFastest (g : Network) (route : List ℕ) (start : ℕ) (stops : List Stop) : Type 0 where
  pub feasible : IsFeasible g 1 start stops
  pub follows : FollowsRoute route stops
  pub fastest : (k : ℕ) (others : List Stop) → IsFeasible g k start others →
      FollowsRoute route others
      → k * time_of g 1 start stops ≤ time_of g k start others

-- no plan of the route is feasible, in any fraction of a unit
abbrev pub HasNoPlan : Network → List ℕ → ℕ → Type 0
HasNoPlan g route start =
    (k : ℕ) (stops : List Stop) → IsFeasible g k start stops → FollowsRoute route stops → ⊥
