use Rattle.std.proofs.Common.{List, subst, sym, arith}
use Rattle.std.proofs.lemmas.Grind.{common_steps}
use Rattle.pricing.specs.declared.priced.PricedRoute.{PricedRoute}
use Rattle.route_pool.specs.Pool.{IsPool}
use Rattle.std.specs.Prelude.{IfSome}
use Rattle.route_pool.specs.Placed.{IsRouteAt}
use Rattle.route_pool.proofs.RoutePlaces.{placed}
use Rattle.route_pool.proofs.PutPlans.{column_got}
use Rattle.route_pool.proofs.pool.ColumnPool.route.Goals as goal

pub returns-clause-column : goal.returns-clause-column
returns-clause-column c g pool =
    let inside = subst (λ (rs : List PricedRoute). IsPool g rs) (sym c.self.view_is) pool in
    column_got g c.self.inside.routes.entries c.args.at c.get_index.result c.get_index.ensures.entry inside

pub returns-clause-placed : goal.returns-clause-placed
returns-clause-placed c =
    let here = placed c.self.inside.routes.entries c.args.at c.get_index.result c.get_index.ensures.entry in
    subst (λ (rs : List PricedRoute). IfSome c.get_index.result (λ r. IsRouteAt rs c.args.at r.0.now.items r.1.now.plan)) c.self.view_is here

pub returns-clause-found : goal.returns-clause-found
returns-clause-found = grind (arith, common_steps)
