-- The routes of a pool by their places.
use Rattle.std.specs.Prelude.{◌≡◌, ℕ, List, Some, slice_get}
use Rattle.pricing.specs.declared.priced.PricedRoute.{PricedRoute}
use Rattle.route_plan.specs.declared.plan.RoutePlan.{RoutePlan}

-- the route at the place serves the customers at these nodes in this order, by this plan
pub record IsRouteAt (routes : List PricedRoute) (at : ℕ) (order : List ℕ)
    (plan : RoutePlan) : Type 0 where
  pub route : PricedRoute
  pub here : slice_get routes at ≡ Some route
  pub order_is : route.order.items ≡ order
  pub plan_is : route.plan ≡ plan
