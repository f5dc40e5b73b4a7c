-- The routes of a node, and its pricing problem.
use Rattle.std.specs.Prelude.{◌≡◌, ℕ, ◌≤◌, List, [], length, map, Vec, ℤ}
use Rattle.std.specs.Global.{Global}
use Rattle.customer_sets.specs.Pairs.{allows_of, ForbiddenPairs}
use Rattle.ev_model.specs.Fleet.{times_in}
use Rattle.ev_model.specs.Network.{Network}
use Rattle.fleet_model.specs.Pairs.{PlanKeepsPairs}
use Rattle.fleet_model.specs.Places.{numbers_of}
use Rattle.instance_reader.specs.Instance.{customer_nodes}
use Rattle.closed_lists.specs.Questions.{Question}
use Rattle.piece_fn.specs.declared.label.Label.{Label}
use Rattle.price_loop.specs.Problems.{Problem}
use Rattle.pricing.specs.Answers.{AreClosed}
use Rattle.pricing.specs.declared.priced.PricedRoute.{PricedRoute}
use Rattle.route_plan.specs.declared.plan.RoutePlan.{RoutePlan}
use Rattle.route_pool.specs.Pool.{full_time, IsColumn}
use Rattle.column_pool.specs.declared.route.NodeRoute.{NodeRoute}

-- an instance, and the pairs that are forbidden at a node
pub record Node : Type 0 where
  pub network : Network
  pub pairs : ForbiddenPairs

-- the plan serves the customers at these nodes in this order
abbrev pub IsColumnOf : Network → NodeRoute → Type 0
IsColumnOf g r = IsColumn g r.order r.plan.stops

-- a feasible plan from full that keeps the pairs, with its order and its time
pub record IsTimedRoute (g : Network) (p : ForbiddenPairs) (r : NodeRoute) : Type 0 where
  pub column : IsColumnOf g r
  pub keeps : PlanKeepsPairs g (allows_of p) r.plan.stops
  pub once : (c : ℕ) → times_in (numbers_of g r.plan.stops) c ≤ 1
  pub time : r.time ≡ full_time g r.plan.stops

-- a route with its time
abbrev pub timed : Network → PricedRoute → NodeRoute
timed g r = record {
  plan = r.plan;
  order = r.order.items;
  time = full_time g r.plan.stops;
}

abbrev pub plans_of_routes : List NodeRoute → List RoutePlan
plans_of_routes routes = map (λ r. r.plan) routes

-- the question of a weight and prices
abbrev pub asked : Network → ForbiddenPairs → ℕ → List ℤ → Question
asked g p weight prices = record {
  network = g;
  pairs = p;
  weight = weight;
  prices = prices;
  labels = [];
}

-- the pricing problem of a node: its routes serve their customers, by number, and cost their time; closed labels show
-- that none earns
abbrev pub node_problem : Network → ForbiddenPairs → Problem NodeRoute (Vec Label Global)
node_problem g p = record {
  customers = length (customer_nodes g);
  is_route = IsTimedRoute g p;
  served = λ r. numbers_of g r.plan.stops;
  cost = λ r. r.time;
  closes = λ weight prices labels. AreClosed (asked g p weight prices) labels.items;
}
