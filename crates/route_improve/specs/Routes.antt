-- Routes while they are made cheaper.
use Rattle.std.specs.Prelude.{◌≡◌, ℕ, ◌<◌, ◌≤◌, List, length, map, sum_by}
use Rattle.std.specs.List.{All}
use Rattle.ev_model.specs.Fleet.{times_in}
use Rattle.ev_model.specs.Network.{Network}
use Rattle.index_links.specs.Lists.{list_at}
use Rattle.plan_check.specs.FleetRules.{IsCustomer}
use Rattle.order_pricing.specs.Orders.{IsLeastTime}
use Rattle.route_improve.specs.Moves.{exchanged, relocated, taken_out}
use Rattle.route_improve.specs.Orders.{HaveCost}
use Rattle.route_improve.specs.declared.route.Route.{Route}

abbrev pub lists_of : List Route → List (List ℕ)
lists_of routes = map (λ r. r.order.items) routes

-- what the routes take together
abbrev pub cost_of_routes : List Route → ℕ
cost_of_routes routes = sum_by (λ r. r.time) routes

-- how often a node stands in the routes
abbrev pub stands_in : List Route → ℕ → ℕ
stands_in routes node = sum_by (λ r. times_in r.order.items node) routes

-- each route takes the least time of its order, and each customer stands on exactly one
pub record AreRoutes (g : Network) (routes : List Route) : Type 0 where
  pub least : All (λ r. IsLeastTime g r.order.items r.time) routes
  pub customers : All (λ r. All (IsCustomer g) r.order.items) routes
  pub once : (node : ℕ) → IsCustomer g node → stands_in routes node ≡ 1

-- as many routes for the same customers, which cost less
pub record AreCheaper (g : Network) (old new : List Route) : Type 0 where
  pub routes : AreRoutes g new
  pub count : length new ≡ length old
  pub less : cost_of_routes new < cost_of_routes old

-- routes for the same customers, which don't cost more
pub record AreNoDearer (g : Network) (old new : List Route) : Type 0 where
  pub routes : AreRoutes g new
  pub no_more : cost_of_routes new ≤ cost_of_routes old

-- where the cost of the lists is defined, the routes don't cost more
abbrev pub AreNoCheaper : Network → List Route → List (List ℕ) → Type 0
AreNoCheaper g routes lists = (cost : ℕ) → HaveCost g lists cost → cost_of_routes routes ≤ cost

-- neither that relocation is cheaper nor that exchange
pub record IsSettledAt (g : Network) (routes : List Route) (a i b j : ℕ) : Type 0 where
  pub relocation : j ≤ length (list_at (taken_out (lists_of routes) a i) b) →
      AreNoCheaper g routes (relocated (lists_of routes) a i b j)
  pub exchange : j < length (list_at (lists_of routes) b) →
      AreNoCheaper g routes (exchanged (lists_of routes) a i b j)

-- the same at each place of list b
abbrev pub IsSettledTo : Network → List Route → ℕ → ℕ → ℕ → Type 0
IsSettledTo g routes a i b = (j : ℕ) → IsSettledAt g routes a i b j

-- the same at each place of the first n of list a
abbrev pub IsSettledPair : Network → List Route → ℕ → ℕ → ℕ → Type 0
IsSettledPair g routes n a b = (i : ℕ) → i < n → IsSettledTo g routes a i b

-- the number of customers on route a
abbrev pub count_at : List Route → ℕ → ℕ
count_at routes a = length (list_at (lists_of routes) a)

-- the same between list a and the first n lists
abbrev pub IsSettledList : Network → List Route → ℕ → ℕ → Type 0
IsSettledList g routes n a =
    (b : ℕ) → b < n → IsSettledPair g routes (count_at routes a) a b

-- the same between the first n lists and each list
abbrev pub AreSettledTo : Network → List Route → ℕ → Type 0
AreSettledTo g routes n =
    (a : ℕ) → a < n → IsSettledList g routes (length routes) a
