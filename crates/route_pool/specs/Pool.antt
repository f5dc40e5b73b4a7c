-- A pool of routes by the order of their customers.
use Rattle.std.specs.Prelude.{◌≡◌, ◌≢◌, ℕ, ◌<◌, ◌⊎◌, List, [], ◌∷◌, ◌++◌, map, is_some, Option, Some, None, Vec, bytes_eq, nat_lt, if◌then◌else◌}
use Rattle.std.specs.Global.{Global}
use Rattle.std.specs.List.{All}
use Rattle.ev_model.specs.Fleet.{customers_of}
use Rattle.ev_model.specs.Network.{Network}
use Rattle.ev_model.specs.Time.{time_of}
use Rattle.ev_model.specs.declared.Stop.{Stop}
use Rattle.fleet_model.specs.Cover.{IsFleetRoute}
use Rattle.pricing.specs.declared.priced.PricedRoute.{PricedRoute}
use Rattle.route_pool.specs.declared.pooled.Pooled.{Pooled}

-- what the pool has for an order of customers' nodes, as a route
abbrev pub route_of_entry : Vec ℕ Global × Pooled → PricedRoute
route_of_entry e = record { plan = e.1.plan; order = e.0 }

-- a feasible plan from full that serves the customers at these nodes in this order, each once, and no other
pub record IsColumn (g : Network) (order : List ℕ) (stops : List Stop) : Type 0 where
  pub route : IsFleetRoute g 1 stops
  pub serves : customers_of g stops ≡ order

-- each route of the pool is such a plan
abbrev pub IsPool : Network → List PricedRoute → Type 0
IsPool g routes = All (λ r. IsColumn g r.order.items r.plan.stops) routes

-- the plan that the pool has for an order of customers' nodes
abbrev pub held : List PricedRoute → List ℕ → Option (List Stop)
held [] order = None
held (r ∷ routes) order =
    if bytes_eq r.order.items order then Some r.plan.stops else held routes order

-- no two routes have the same order
abbrev pub AreApart : List PricedRoute → Type 0
AreApart [] = Unit {0}
AreApart (r ∷ routes) = (held routes r.order.items ≡ None) × AreApart routes

-- the orders of the routes, in the order of these
abbrev pub orders_of : List PricedRoute → List (List ℕ)
orders_of routes = map (λ r. r.order.items) routes

-- the orders once one was put in: it keeps its place, and a new one is last
abbrev pub orders_after : List PricedRoute → List ℕ → List (List ℕ)
orders_after routes order =
    if is_some (held routes order) then orders_of routes else orders_of routes ++ order ∷ []

-- the scaled time of a plan from full
abbrev pub full_time : Network → List Stop → ℕ
full_time g stops = time_of g 1 g.capacity stops

-- the plan that is kept: the one that was there, unless the other is faster
abbrev pub kept : Network → List Stop → Option (List Stop) → List Stop
kept g stops None = stops
kept g stops (Some before) =
    if nat_lt (full_time g stops) (full_time g before) then stops else before

-- a plan was put in for an order; the plans of other orders have stayed
pub record IsPut (g : Network) (order : List ℕ) (stops : List Stop)
    (old new : List PricedRoute) : Type 0 where
  pub here : held new order ≡ Some (kept g stops (held old order))
  pub others : (other : List ℕ) → other ≢ order → held new other ≡ held old other

-- of each order that had a plan, the pool has the same plan or a faster one
abbrev pub IsGrown : Network → List PricedRoute → List PricedRoute → Type 0
IsGrown g old new =
    (order : List ℕ) (stops : List Stop) → held old order ≡ Some stops →
    (now : List Stop) × (held new order ≡ Some now) ×
    ((now ≡ stops) ⊎ (full_time g now < full_time g stops))
