-- Routes of vehicles of some kind, as they are searched for.
use Rattle.std.specs.Prelude.{◌≡◌, ℕ, List, map}
use Rattle.std.specs.List.{sum_by}
use Rattle.ev_model.specs.Network.{Network}
use Rattle.ev_model.specs.Time.{time_of}
use Rattle.fleet_model.specs.Places.{customer_number, numbers_of}
use Rattle.route_plan.specs.declared.plan.RoutePlan.{RoutePlan}
use Rattle.mixed_model.specs.Covers.{IsKindRoute}
use Rattle.mixed_model.specs.Kinds.{network_of}
use Rattle.mixed_model.specs.Meaning.{kind_plan}
use Rattle.mixed_model.specs.Plans.{time_in}
use Rattle.mixed_fleet.specs.declared.searched.Searched.{Searched}

-- a route of a fleet in the network of its kind, with the numbers of its customers and its time
pub record IsSearched (kinds : List Network) (r : Searched) : Type 0 where
  pub route : IsKindRoute kinds 1 (kind_plan r.route)
  pub numbers : r.numbers ≡ numbers_of (network_of kinds r.route.kind) r.route.plan.stops
  pub time : r.time ≡ time_in kinds 1 (kind_plan r.route)

-- the sum of the times of routes
abbrev pub total_time : List Searched → ℕ
total_time routes = sum_by (λ (r : Searched). r.time) routes

-- a plan of a vehicle of a kind, with the numbers of the customers at these nodes, and its time
abbrev pub searched_of : Network → ℕ → List ℕ → RoutePlan → Searched
searched_of g kind order plan = record {
  route = record { kind = kind; plan = plan };
  numbers = map (customer_number g) order;
  time = time_of g 1 g.capacity plan.stops;
}
