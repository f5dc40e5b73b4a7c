use Rattle.std.proofs.Common.{sym, subst}
use Rattle.route_pool.specs.Placed.{IsRouteAt}
use Rattle.route_pool.specs.Pool.{IsColumn}
use Rattle.route_pool.proofs.pool.ColumnPool.route_at.Goals as goal

pub returns-in-Some-clause-column : goal.returns-in-Some-clause-column
returns-in-Some-clause-column c = λ g pool.
    subst (λ xs. IsColumn g xs c.in-Some.pooled.now.plan.stops) (sym c.as_slice.ensures.value) (c.in-Some.ensures.column g pool)

pub returns-in-Some-clause-placed : goal.returns-in-Some-clause-placed
returns-in-Some-clause-placed c =
    subst (λ xs. IsRouteAt c.args.self.now c.args.at xs c.in-Some.pooled.now.plan) (sym c.as_slice.ensures.value) c.in-Some.ensures.placed
