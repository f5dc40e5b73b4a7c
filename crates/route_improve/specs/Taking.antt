-- Orders that may be taken in place of those of routes: they have the same customers.
use Rattle.std.specs.Prelude.{◌≡◌, ℕ, ◌+◌, List}
use Rattle.std.specs.List.{All}
use Rattle.ev_model.specs.Fleet.{times_in}
use Rattle.ev_model.specs.Network.{Network}
use Rattle.index_links.specs.Lists.{list_at}
use Rattle.plan_check.specs.FleetRules.{IsCustomer}
use Rattle.route_improve.specs.Routes.{lists_of}
use Rattle.route_improve.specs.declared.route.Route.{Route}

-- the order has the customers of a route
pub record AreOfRoute (g : Network) (routes : List Route) (a : ℕ) (order : List ℕ) : Type 0 where
  pub customers : All (IsCustomer g) order
  pub same : (node : ℕ) → times_in order node ≡ times_in (list_at (lists_of routes) a) node

-- the two orders have together the customers of two routes
pub record AreOfPair (g : Network) (routes : List Route) (a b : ℕ) (first second : List ℕ) : Type 0 where
  pub first_customers : All (IsCustomer g) first
  pub second_customers : All (IsCustomer g) second
  pub same : (node : ℕ) → times_in first node + times_in second node
      ≡ times_in (list_at (lists_of routes) a) node + times_in (list_at (lists_of routes) b) node
