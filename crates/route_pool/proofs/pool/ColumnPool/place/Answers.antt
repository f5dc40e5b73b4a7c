use Rattle.std.proofs.Common.{◌∙◌, ap, is_some, IfSome, List, subst, sym, ℕ, Option}
use Rattle.std.specs.List.{position}
use Rattle.std.specs.Map.{keys_of}
use Rattle.pricing.specs.declared.priced.PricedRoute.{PricedRoute}
use Rattle.route_plan.specs.declared.plan.RoutePlan.{RoutePlan}
use Rattle.route_pool.specs.Placed.{IsRouteAt}
use Rattle.route_pool.specs.Pool.{held}
use Rattle.route_pool.proofs.RoutePlaces.{place_found, place_is}
use Rattle.route_pool.proofs.PutPlans.{at_order}
use Rattle.route_pool.proofs.pool.ColumnPool.place.Goals as goal

pub returns-clause-found : goal.returns-clause-found
returns-clause-found c =
    ap is_some c.get_index_of.ensures.index
    ∙ place_found c.self.inside.routes.entries c.args.order.now
    ∙ ap (λ (rs : List PricedRoute). is_some (held rs c.args.order.now)) c.self.view_is

pub returns-clause-placed : goal.returns-clause-placed
returns-clause-placed c =
    let there = place_is c.self.inside.routes.entries c.args.order.now in
    let here = subst (λ (rs : List PricedRoute). IfSome (position (at_order c.args.order.now) (keys_of c.self.inside.routes.entries)) (λ at. (plan : RoutePlan) × IsRouteAt rs at c.args.order.now plan)) c.self.view_is there in
    subst (λ (o : Option ℕ). IfSome o (λ at. (plan : RoutePlan) × IsRouteAt c.args.self.now at c.args.order.now plan)) (sym c.get_index_of.ensures.index) here
