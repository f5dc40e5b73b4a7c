use Rattle.std.proofs.Common.{◌∙◌, ap, is_some, List}
use Rattle.pricing.specs.declared.priced.PricedRoute.{PricedRoute}
use Rattle.route_pool.specs.Pool.{held}
use Rattle.route_pool.proofs.PutPlans.{held_where_found}
use Rattle.route_pool.proofs.pool.ColumnPool.has.Goals as goal

pub returns : goal.returns
returns c =
    c.contains_key.ensures
    ∙ held_where_found c.self.inside.routes.entries c.args.order.now
    ∙ ap (λ (rs : List PricedRoute). is_some (held rs c.args.order.now)) c.self.view_is
