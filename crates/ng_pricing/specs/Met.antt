-- Near routes that were met, and what they allow a customer's price to be.
use Rattle.std.specs.Prelude.{◌≡◌, ℕ, ◌+◌, ◌<◌, ◌≤◌, List, Some, get_or, length, set, slice_get}
use Rattle.std.specs.List.{All}
use Rattle.certificate_parts.specs.Ranges.{ColumnFits}
use Rattle.ev_model.specs.Fleet.{times_in}
use Rattle.ev_model.specs.Network.{Network}
use Rattle.ev_model.specs.Time.{time_of}
use Rattle.fleet_model.specs.Places.{numbers_of}
use Rattle.instance_reader.specs.Instance.{customer_nodes}
use Rattle.near_proof.specs.Routes.{IsNearRoute}
use Rattle.near_proof.specs.Terms.{earned_by}
use Rattle.route_plan.specs.declared.plan.RoutePlan.{RoutePlan}
use Rattle.ng_pricing.specs.declared.met.Limit.{Limit}
use Rattle.ng_pricing.specs.declared.met.MetRoute.{MetRoute}

-- the plan with its scaled time from full and the numbers of its services
pub record IsMeasured (g : Network) (plan : RoutePlan) (r : MetRoute) : Type 0 where
  pub same : r.plan ≡ plan
  pub time : r.time ≡ time_of g 1 g.capacity plan.stops
  pub numbers : r.numbers ≡ numbers_of g plan.stops
  pub within : All (λ c. c < length (customer_nodes g)) r.numbers

-- a near route that may stand in a text, measured
pub record IsMet (g : Network) (sets : List (List ℕ)) (r : MetRoute) : Type 0 where
  pub route : IsNearRoute g sets r.plan.stops
  pub fits : ColumnFits r.plan
  pub measured : IsMeasured g r.plan r

abbrev pub AreMet : Network → List (List ℕ) → List MetRoute → Type 0
AreMet g sets met = All (IsMet g sets) met

-- the route takes at least what it earns
abbrev pub Pays : List ℕ → MetRoute → Type 0
Pays prices r = earned_by prices r.numbers ≤ r.time

-- the greatest price of a customer at which the route, which serves the customer, pays
pub record IsAllowed (prices : List ℕ) (c : ℕ) (r : MetRoute) (price : ℕ) : Type 0 where
  pub serves : 1 ≤ times_in r.numbers c
  pub pays : Pays (set prices c price) r
  pub most : r.time < earned_by (set prices c price) r.numbers + times_in r.numbers c

-- a price that is the greatest that one of the routes allows
pub record IsLimit (prices : List ℕ) (c : ℕ) (met : List MetRoute) (l : Limit) : Type 0 where
  pub route : MetRoute
  pub is : slice_get met l.route ≡ Some route
  pub allowed : IsAllowed prices c route l.price

-- prices of which one is lowered by a route: one higher, the route would earn more than it takes
pub record IsLowered (r : MetRoute) (old lowered : List ℕ) : Type 0 where
  pub c : ℕ
  pub price : ℕ
  pub customer : c < length old
  pub less : price < get_or old c 0
  pub needed : r.time < earned_by (set old c (price + 1)) r.numbers
  pub is : lowered ≡ set old c price
