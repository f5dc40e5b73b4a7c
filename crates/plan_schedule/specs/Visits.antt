-- The visits of a route: what happens at each of its stops, and when.
use Rattle.std.specs.Prelude.{ℕ, ◌+◌, ◌-◌, ◌*◌, ◌^◌, ◌<◌, ◌≤◌, List, [], ◌∷◌, Option, None, Some, false, nat_eq, if◌then◌else◌}
use Rattle.ev_model.specs.Network.{Network, curve_at, energy, node_count, process_time, travel_time}
use Rattle.ev_model.specs.Time.{plugging_time}
use Rattle.ev_model.specs.declared.Stop.{Stop}
use Rattle.route_plan.specs.Walking.{charge_between}
use Rattle.plan_schedule.specs.declared.schedule.PlaceKind.{PlaceKind}
use Rattle.plan_schedule.specs.declared.schedule.PlaceKind.TheVariants.{Depot, Customer, Station}
use Rattle.plan_schedule.specs.declared.schedule.Visit.{Visit}

-- a node that isn't the depot is a station exactly where it has a curve
abbrev pub kind_by : Option (List (ℕ × ℕ)) → PlaceKind
kind_by None = Customer
kind_by (Some points) = Station

abbrev pub kind_of : Network → ℕ → PlaceKind
kind_of g node = if nat_eq node 0 then Depot else kind_by (curve_at g node)

-- when the vehicle arrives at a stop, from the visit before
abbrev pub arrival_at : Network → Visit → Stop → ℕ
arrival_at g before s = before.leaving + g.denominator * travel_time g before.node s.node

-- the level on arriving at a stop
abbrev pub level_at : Network → Visit → Stop → ℕ
level_at g before s = before.level_left - energy g before.node s.node

-- the scaled time of charging at a stop
abbrev pub charging_at : Network → Visit → Stop → ℕ
charging_at g before s =
    charge_between g.denominator (curve_at g s.node) (level_at g before s)
    (level_at g before s + s.added)

-- when the vehicle leaves a stop: it has arrived, served, plugged in where something is charged, and charged
abbrev pub leaving_at : Network → Visit → Stop → ℕ
leaving_at g before s =
    arrival_at g before s + g.denominator * process_time g s.node
    + g.denominator * plugging_time g s + charging_at g before s

-- the visit of a stop, behind the one before it
abbrev pub visit_at : Network → Visit → Stop → Visit
visit_at g before s = record {
  node = s.node;
  kind = kind_of g s.node;
  inserted = s.via;
  energy = energy g before.node s.node;
  driving = g.denominator * travel_time g before.node s.node;
  arrival = arrival_at g before s;
  level = level_at g before s;
  service = g.denominator * process_time g s.node;
  plugging = g.denominator * plugging_time g s;
  charging = charging_at g before s;
  charged = s.added;
  level_left = level_at g before s + s.added;
  leaving = leaving_at g before s;
}

-- the first visit: the depot is left at time 0 with this level
abbrev pub start_of : ℕ → Visit
start_of start = record {
  node = 0;
  kind = Depot;
  inserted = false;
  energy = 0;
  driving = 0;
  arrival = 0;
  level = start;
  service = 0;
  plugging = 0;
  charging = 0;
  charged = 0;
  level_left = start;
  leaving = 0;
}

-- the visits of the stops behind a visit
abbrev pub visits_behind : Network → Visit → List Stop → List Visit
visits_behind g before [] = []
visits_behind g before (s ∷ ss) = visit_at g before s ∷ visits_behind g (visit_at g before s) ss

-- the visits of a route that begins at the depot with this level
abbrev pub visits_of : Network → ℕ → List Stop → List Visit
visits_of g start [] = []
visits_of g start (first ∷ stops) = start_of start ∷ visits_behind g (start_of start) stops

-- the numbers of a visit are those of a network and of a plan that lasts no longer than is allowed
pub record IsWithin (g : Network) (v : Visit) : Type 0 where
  pub known : v.node < node_count g
  pub rises : v.level ≤ v.level_left
  pub full : v.level_left ≤ g.capacity
  pub in_time : v.arrival + v.service + v.plugging ≤ 10 ^ 18
  pub small_energy : v.energy ≤ 10 ^ 9
  pub small_charge : v.charged ≤ 10 ^ 9

-- when the last of the visits leaves
abbrev pub end_of : List Visit → ℕ
end_of [] = 0
end_of (v ∷ []) = v.leaving
end_of (v ∷ w ∷ vs) = end_of (w ∷ vs)
