-- Routes in order.
use Rattle.std.specs.Prelude.{◌≡◌, ℕ, ◌≤◌, List, [], ◌∷◌, ◌++◌, filter}
use Rattle.std.specs.List.Sorted.{IsNonDecreasingBy, IsPermutation}
use Rattle.ev_model.specs.Network.{Network}
use Rattle.route_improve.specs.Moves.{has_customer}
use Rattle.route_improve.specs.Routes.{AreRoutes, cost_of_routes}
use Rattle.route_improve.specs.declared.route.Route.{Route}

abbrev pub first_or_depot : List ℕ → ℕ
first_or_depot [] = 0
first_or_depot (node ∷ nodes) = node

-- the node of the first customer, 0 where there is none
abbrev pub first_node : Route → ℕ
first_node r = first_or_depot r.order.items

-- the routes with customers
abbrev pub are_served : List Route → List Route
are_served routes = filter (λ r. has_customer r.order.items) routes

-- the routes with customers, by their first ones, and a route without customers behind them
pub record AreArranged (routes arranged : List Route) : Type 0 where
  pub front : List Route
  pub empty : Route
  pub is : arranged ≡ front ++ empty ∷ []
  pub none : empty.order.items ≡ []
  pub no_time : empty.time ≡ 0
  pub same : IsPermutation (are_served routes) front
  pub order : IsNonDecreasingBy first_node front

-- routes made of others, in order; they don't cost more
pub record AreOrderly (g : Network) (routes better : List Route) : Type 0 where
  pub routes_are : AreRoutes g better
  pub no_more : cost_of_routes better ≤ cost_of_routes routes
  pub arranged : (before : List Route) × AreArranged before better
