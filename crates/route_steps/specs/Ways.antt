-- How far a vehicle has come along a route, and how it may go on.
use Rattle.std.specs.Prelude.{◌≡◌, ◌≢◌, ℕ, ◌+◌, ◌-◌, ◌<◌, ◌≤◌, List, [], false, length, drop, slice_index, if◌then◌else◌}
use Rattle.ev_model.specs.Network.{Network, energy, scaled_limit}
use Rattle.ev_model.specs.Plan.{AreStopsFrom, EndsAtDepot, IsStop}
use Rattle.ev_model.specs.Levels.{KeepsBatteryFrom, leaving_level, level_after}
use Rattle.ev_model.specs.Route.{route_of}
use Rattle.ev_model.specs.Time.{stop_time, time_from}
use Rattle.ev_model.specs.declared.Stop.{Stop}

-- a vehicle about to leave a node: the index in the route of the last node that was served, the node, the
-- level of the battery and the scaled time
pub record Leaving : Type 0 where
  pub passed : ℕ
  pub node : ℕ
  pub level : ℕ
  pub time : ℕ

-- the index after a stop: one more where the stop was not inserted
abbrev pub passed_after : ℕ → Stop → ℕ
passed_after passed s = if s.via then passed else passed + 1

-- the vehicle about to leave its next stop
abbrev pub leaving_after : Network → Leaving → Stop → Leaving
leaving_after g v s = record {
  passed = passed_after v.passed s;
  node = s.node;
  level = leaving_level g 1 v.node v.level s;
  time = v.time + stop_time g 1 v.node v.level s;
}

-- the stop may be the next: battery, limit and route allow it
pub record MayStop (g : Network) (route : List ℕ) (v : Leaving) (s : Stop) : Type 0 where
  pub other : s.node ≢ v.node
  pub stop : IsStop g s
  pub on_way : v.passed < length route - 1
  pub next : s.via ≡ false → slice_index route (v.passed + 1) ≡ s.node
  pub reserve : energy g v.node s.node + g.reserve ≤ v.level
  pub within : leaving_level g 1 v.node v.level s ≤ g.capacity
  pub home : passed_after v.passed s ≡ length route - 1 →
      (s.added ≡ 0) × (g.home_level ≤ leaving_level g 1 v.node v.level s)
  pub in_time : v.time + stop_time g 1 v.node v.level s ≤ scaled_limit g

-- the stops are a way to the end of the route
pub record IsRest (g : Network) (route : List ℕ) (v : Leaving) (stops : List Stop) : Type 0 where
  pub moves : AreStopsFrom g v.node stops
  pub ends : stops ≢ [] → EndsAtDepot stops
  pub battery : KeepsBatteryFrom g 1 v.node v.level stops
  pub home : g.home_level ≤ level_after g 1 v.node v.level stops
  pub follows : route_of stops ≡ drop (v.passed + 1) route
  pub within : v.passed < length route
  pub in_time : v.time + time_from g 1 v.node v.level stops ≤ scaled_limit g

-- the vehicle at the depot, about to leave
abbrev pub begin : ℕ → Leaving
begin start = record { passed = 0; node = 0; level = start; time = 0 }

-- the depot as the first stop
abbrev pub depot_stop : Stop
depot_stop = record { node = 0; added = 0; via = false }
