-- Orders of a fleet, in which each vehicle serves its customers, and what they cost.
use Rattle.std.specs.Prelude.{◌≡◌, ℕ, List, [], ◌∷◌, map, sum}
use Rattle.ev_model.specs.Fleet.{customers_of}
use Rattle.ev_model.specs.Network.{Network}
use Rattle.route_plan.specs.declared.plan.RoutePlan.{RoutePlan}
use Rattle.order_pricing.specs.Orders.{IsLeastTime}

-- the least times of the lists, one after another
abbrev pub AreLeastTimes : Network → List (List ℕ) → List ℕ → Type 0
AreLeastTimes g [] [] = Unit {0}
AreLeastTimes g [] (time ∷ times) = ⊥
AreLeastTimes g (order ∷ orders) [] = ⊥
AreLeastTimes g (order ∷ orders) (time ∷ times) =
    IsLeastTime g order time × AreLeastTimes g orders times

-- orders cost the sum of the least times of their lists; the cost is defined where each list has a
-- plan
pub record HaveCost (g : Network) (orders : List (List ℕ)) (cost : ℕ) : Type 0 where
  pub times : List ℕ
  pub least : AreLeastTimes g orders times
  pub total : cost ≡ sum times

-- the orders in which routes serve their customers
abbrev pub orders_of : Network → List RoutePlan → List (List ℕ)
orders_of g routes = map (λ p. customers_of g p.stops) routes
