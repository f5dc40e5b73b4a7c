-- The plans of routes.
use Rattle.std.specs.Prelude.{List, [], ◌∷◌}
use Rattle.ev_model.specs.Fastest.{IsFastest}
use Rattle.ev_model.specs.Network.{Network}
use Rattle.route_plan.specs.declared.plan.RoutePlan.{RoutePlan}
use Rattle.order_pricing.specs.Orders.{route_over}
use Rattle.route_improve.specs.declared.route.Route.{Route}

-- a fastest plan, from full, for the order of a route
abbrev pub IsPlanOf : Network → Route → RoutePlan → Type 0
IsPlanOf g r plan = IsFastest g (route_over r.order.items) g.capacity plan.stops

-- such a plan for each of the routes
abbrev pub ArePlansOf : Network → List Route → List RoutePlan → Type 0
ArePlansOf g [] [] = Unit {0}
ArePlansOf g [] (plan ∷ plans) = ⊥
ArePlansOf g (r ∷ routes) [] = ⊥
ArePlansOf g (r ∷ routes) (plan ∷ plans) = IsPlanOf g r plan × ArePlansOf g routes plans
