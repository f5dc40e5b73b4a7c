-- The routes of a fleet plan.
use Rattle.std.specs.Prelude.{◌≡◌, ◌≤◌, List, [], ◌∷◌}
use Rattle.ev_model.specs.Fleet.{customers_of}
use Rattle.ev_model.specs.Network.{Network}
use Rattle.ev_model.specs.Time.{time_of}
use Rattle.ev_model.specs.declared.Stop.{Stop}
use Rattle.route_plan.specs.declared.plan.RoutePlan.{RoutePlan}
use Rattle.order_pricing.specs.Orders.{IsLeastTime}
use Rattle.route_improve.specs.declared.route.Route.{Route}

-- the route has the customers of a plan, in order, and takes their least time, which is no more
-- than the plan's
pub record IsRouteOf (g : Network) (stops : List Stop) (r : Route) : Type 0 where
  pub order : r.order.items ≡ customers_of g stops
  pub least : IsLeastTime g r.order.items r.time
  pub no_more : r.time ≤ time_of g 1 g.capacity stops

-- the routes of plans, one after another
abbrev pub AreRoutesOf : Network → List RoutePlan → List Route → Type 0
AreRoutesOf g [] [] = Unit {0}
AreRoutesOf g [] (r ∷ routes) = ⊥
AreRoutesOf g (p ∷ plans) [] = ⊥
AreRoutesOf g (p ∷ plans) (r ∷ routes) = IsRouteOf g p.stops r × AreRoutesOf g plans routes
