-- What is answered: a plan that no move makes cheaper, or a customer whom no route of his own
-- reaches.
use Rattle.std.specs.Prelude.{◌≡◌, ℕ, ◌<◌, ◌≤◌, Bool, false, true, List, [], ◌∷◌, Option, None, Some, map}
use Rattle.std.specs.List.{All}
use Rattle.std.specs.List.Sorted.{IsStrictlyIncreasing}
use Rattle.ev_model.specs.Fastest.{HasNoPlan, IsFastest}
use Rattle.ev_model.specs.Fleet.{IsFleetPlan, cost_of, customers_of}
use Rattle.ev_model.specs.Network.{Network}
use Rattle.instance_reader.specs.Instance.{customer_nodes}
use Rattle.plan_check.specs.FleetRules.{IsCustomer, stops_of}
use Rattle.route_plan.specs.PlanTexts.{FitsFile}
use Rattle.route_plan.specs.declared.plan.RoutePlan.{RoutePlan}
use Rattle.order_pricing.specs.Orders.{route_over}
use Rattle.route_improve.specs.Arranged.{first_or_depot}
use Rattle.route_improve.specs.Moves.{IsSettled}
use Rattle.route_improve.specs.Orders.{HaveCost, orders_of}
use Rattle.route_improve.specs.declared.improving.Improved.{Improved}
use Rattle.route_improve.specs.declared.improving.Improved.TheVariants.{Plan, Alone}
use Rattle.route_improve.specs.declared.own.OwnFault.{OwnFault}
use Rattle.route_improve.specs.declared.own.OwnFault.TheVariants as own

-- a fastest plan, from full, for the order of its customers
abbrev pub IsFastestForOrder : Network → RoutePlan → Type 0
IsFastestForOrder g p = IsFastest g (route_over (customers_of g p.stops)) g.capacity p.stops

-- a fleet plan that may be written as text, its routes in rising order of their first customers and
-- each fastest for its order
pub record IsOrderly (g : Network) (routes : List RoutePlan) : Type 0 where
  pub fleet : IsFleetPlan g 1 (stops_of routes)
  pub order : IsStrictlyIncreasing (map first_or_depot (orders_of g routes))
  pub fastest : All (IsFastestForOrder g) routes
  pub text : FitsFile (Some (record { routes = routes }))

-- a fleet plan that may be written as text, its routes in rising order of their first customers and
-- each fastest for its order, that no move of single customers makes cheaper
pub record IsImproved (g : Network) (routes : List RoutePlan) : Type 0 where
  pub fleet : IsFleetPlan g 1 (stops_of routes)
  pub order : IsStrictlyIncreasing (map first_or_depot (orders_of g routes))
  pub fastest : All (IsFastestForOrder g) routes
  pub settled : IsSettled g (orders_of g routes)
  pub text : FitsFile (Some (record { routes = routes }))

-- no route of his own reaches the customer, in any fraction of a unit
abbrev pub HasNoOwn : Network → ℕ → Type 0
HasNoOwn g node = HasNoPlan g (route_over (node ∷ [])) g.capacity

-- an order for each customer alone
abbrev pub own_orders : Network → List (List ℕ)
own_orders g = map (λ node. node ∷ []) (customer_nodes g)

-- the plan costs no more than routes for the customers alone, and each customer has one
pub record CostsNoMoreThanOwn (g : Network) (cost : ℕ) : Type 0 where
  pub each : (node : ℕ) → IsCustomer g node → HasNoOwn g node → ⊥
  pub no_more : (own_cost : ℕ) → HaveCost g (own_orders g) own_cost → cost ≤ own_cost

-- the cost is no more than that of the plan before, or, where there was none, than that of routes
-- for the customers alone
abbrev pub CostsNoMore : Network → Option (List RoutePlan) → ℕ → Type 0
CostsNoMore g None cost = CostsNoMoreThanOwn g cost
CostsNoMore g (Some from) cost = cost ≤ cost_of g 1 (stops_of from)

-- the first customer without a route of his own
pub record IsFirstAlone (g : Network) (node : ℕ) : Type 0 where
  pub customer : IsCustomer g node
  pub none : HasNoOwn g node
  pub first : (other : ℕ) → IsCustomer g other → other < node → HasNoOwn g other → ⊥

-- a plan that no move makes cheaper and that costs no more than the one before; or, where there was
-- none, the first customer without a route of his own
abbrev pub IsAnswer : Network → Option (List RoutePlan) → Improved → Type 0
IsAnswer g from (Plan plan) =
    IsImproved g plan.routes × CostsNoMore g from (cost_of g 1 (stops_of plan.routes))
IsAnswer g from (Alone node) = (from ≡ None) × IsFirstAlone g node

-- a fleet plan that no move makes cheaper, or, where a clock ended the moves, one in order
abbrev pub IsMoved : Network → Bool → List RoutePlan → Type 0
IsMoved g false routes = IsImproved g routes
IsMoved g true routes = IsOrderly g routes

-- what is answered where a clock may have ended the moves: where it didn't, an answer as ever
abbrev pub IsTimedAnswer : Network → Bool → Option (List RoutePlan) → Improved → Type 0
IsTimedAnswer g ended from (Plan plan) =
    IsMoved g ended plan.routes × CostsNoMore g from (cost_of g 1 (stops_of plan.routes))
IsTimedAnswer g ended from (Alone node) = (from ≡ None) × IsFirstAlone g node

abbrev pub IsOwnFault : Network → OwnFault → Type 0
IsOwnFault g (own.Alone node) = IsFirstAlone g node
IsOwnFault g own.Memory = Unit {0}
