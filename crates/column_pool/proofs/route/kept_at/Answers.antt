use Rattle.std.proofs.Common.{subst, sym}
use Rattle.route_pool.proofs.Known.{column_known}
use Rattle.column_pool.specs.Nodes.{IsTimedRoute}
use Rattle.column_pool.specs.declared.route.NodeRoute.{NodeRoute}
use Rattle.column_pool.proofs.Routes.{kept_route}
use Rattle.column_pool.proofs.route.kept_at.Goals as goal

pub keeps_pairs-requires-clause-known : goal.keeps_pairs-requires-clause-known
keeps_pairs-requires-clause-known c =
    column_known c.args.inst.now c.in-Some.order.now c.in-Some.plan.now.stops (c.in-Some.ensures.column c.args.inst.now c.requires.pool)

pub returns : goal.returns
returns c =
    let g = c.args.inst.now in
    let p = c.args.pairs.now in
    let column = c.in-Some.ensures.column g c.requires.pool in
    let keeps = c.keeps_pairs.ensures.0 c.if-not-keeps_pairs.false in
    subst (λ (r : NodeRoute). IsTimedRoute g p r) (sym c.in_ok-route.ensures) (kept_route g p c.in-Some.plan.now c.in-Some.order.now column keeps)
