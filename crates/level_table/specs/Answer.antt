-- What is answered about one route, among the plans in whole units of charge.
use Rattle.std.specs.Prelude.{ℕ, ◌+◌, ◌-◌, ◌*◌, ◌^◌, ◌≤◌, List, length}
use Rattle.ev_model.specs.Network.{Network}
use Rattle.ev_model.specs.Feasible.{IsFeasible}
use Rattle.ev_model.specs.Route.{FollowsRoute}
use Rattle.ev_model.specs.Time.{time_of}
use Rattle.ev_model.specs.declared.Stop.{Stop}
use Rattle.level_table.specs.Stations.{stations}

-- a feasible whole plan of the route than which no feasible whole plan of the route is faster
pub record IsFastestWhole (g : Network) (route : List ℕ) (start : ℕ) (stops : List Stop) : Type 0 where
  pub feasible : IsFeasible g 1 start stops
  pub follows : FollowsRoute route stops
  pub fastest : (others : List Stop) → IsFeasible g 1 start others → FollowsRoute route others
      → time_of g 1 start stops ≤ time_of g 1 start others

-- no whole plan of the route is feasible
abbrev pub HasNoWholePlan : Network → List ℕ → ℕ → Type 0
HasNoWholePlan g route start =
    (stops : List Stop) → IsFeasible g 1 start stops → FollowsRoute route stops → ⊥

-- the cells of a table: for each arc of the route, for the node before it and each station that may be inserted there, for each whole level
abbrev pub cell_count : Network → List ℕ → ℕ
cell_count g route = (length route - 1) * (length (stations g) + 1) * (g.capacity + 1)

-- the most cells of a table
abbrev pub most_cells : ℕ
most_cells = 2 * 10 ^ 7
