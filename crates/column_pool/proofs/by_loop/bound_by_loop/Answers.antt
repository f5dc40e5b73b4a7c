use Rattle.std.proofs.Common.{List, ℕ, Vec, subst, sym, arith}
use Rattle.std.proofs.lemmas.Grind.{common_steps}
use Rattle.std.specs.Global.{Global}
use Rattle.master_table.specs.RowView.{limits_of}
use Rattle.piece_fn.specs.declared.label.Label.{Label}
use Rattle.price_loop.specs.Endings.{IsEnded}
use Rattle.price_loop.specs.declared.ended.LoopEnd.{LoopEnd}
use Rattle.pricing.specs.declared.priced.PricedRoute.{PricedRoute}
use Rattle.route_plan.specs.declared.plan.RoutePlan.{RoutePlan}
use Rattle.route_pool.specs.Pool.{IsGrown, IsPool}
use Rattle.route_pool.proofs.GrownPools.{grown_further}
use Rattle.column_pool.specs.Columns.{AreNodeRoutes, IsPricedOut}
use Rattle.column_pool.specs.Nodes.{node_problem}
use Rattle.column_pool.specs.TooWide.{IsPastBasis}
use Rattle.column_pool.specs.declared.route.NodeRoute.{NodeRoute}
use Rattle.column_pool.proofs.Ends.{wide_plans}
use Rattle.column_pool.proofs.Routes.{node_routes}
use Rattle.column_pool.proofs.by_loop.bound_by_loop.Goals as goal

pub bound_of-requires-clause-over : goal.bound_of-requires-clause-over
bound_of-requires-clause-over c =
    let g = c.args.inst.now in
    let p = c.args.pairs.now in
    let lp = c.in-Closed.lp in
    let closing = c.in-Closed.closing in
    let over = subst (λ (e : LoopEnd NodeRoute (Vec Label Global)). IsEnded (node_problem g p) (limits_of c.args.caps) e) c.in-Closed.is c.in_ok-lp.ensures in
    subst (λ (rs : List NodeRoute). IsPricedOut g p rs lp closing) (sym c.deref-in-Closed-3.ensures.value) (record {
      caps = limits_of c.args.caps;
      body = c.requires.body_cap;
      cost = c.requires.cost_cap;
      basis = c.in-Closed.basis.items;
      over = over;
    })

pub wide_bound-requires-clause-routes : goal.wide_bound-requires-clause-routes
wide_bound-requires-clause-routes c =
    let g = c.args.inst.now in
    let p = c.args.pairs.now in
    let wide = subst (λ (e : LoopEnd NodeRoute (Vec Label Global)). IsEnded (node_problem g p) (limits_of c.args.caps) e) c.in-Wide.is c.in_ok-lp.ensures in
    subst (λ (ps : List RoutePlan). AreNodeRoutes g p ps) (sym c.in_ok-plans-in-Wide.ensures) (node_routes g p c.in-Wide.routes.items wide.routes_are)

pub returns-in_ok-recent-in-Closed-clause-bound : goal.returns-in_ok-recent-in-Closed-clause-bound
returns-in_ok-recent-in-Closed-clause-bound c = c.bound_of.ensures c.args.caps.body c.args.caps.cost

pub returns-in_ok-recent-in-Closed-clause-pool : goal.returns-in_ok-recent-in-Closed-clause-pool
returns-in_ok-recent-in-Closed-clause-pool c =
    subst (λ (rs : List PricedRoute). IsPool c.args.inst.now rs) (sym c.note_recent.ensures) c.take_all.ensures.pool

pub returns-in_ok-recent-in-Closed-clause-grown : goal.returns-in_ok-recent-in-Closed-clause-grown
returns-in_ok-recent-in-Closed-clause-grown c =
    subst (λ (rs : List PricedRoute). IsGrown c.args.inst.now c.args.pool.now rs) (sym c.note_recent.ensures)
    (grown_further c.args.inst.now c.args.pool.now c.put_own_routes.new.pool c.take_all.new.pool c.put_own_routes.ensures.grown c.take_all.ensures.grown)

pub returns-in_ok-plans-in-Wide-clause-bound : goal.returns-in_ok-plans-in-Wide-clause-bound
returns-in_ok-plans-in-Wide-clause-bound c =
    let g = c.args.inst.now in
    let p = c.args.pairs.now in
    let caps = limits_of c.args.caps in
    let wide = subst (λ (e : LoopEnd NodeRoute (Vec Label Global)). IsEnded (node_problem g p) (limits_of c.args.caps) e) c.in-Wide.is c.in_ok-lp.ensures in
    let past = wide_plans g p caps c.in-Wide.routes.items c.in-Wide.basis.items wide in
    let listed = subst (λ (ps : List RoutePlan). IsPastBasis g caps ps c.in-Wide.basis.items) (sym c.in_ok-plans-in-Wide.ensures) past in
    let numbered = subst (λ (js : List ℕ). IsPastBasis g caps c.in_ok-plans-in-Wide.plans.items js) (sym c.deref-in-Wide-2.ensures.value) listed in
    c.wide_bound.ensures caps numbered

pub take_all-requires-clause-routes : goal.take_all-requires-clause-routes
take_all-requires-clause-routes = grind (arith, common_steps)

pub take_all-requires-in-Wide-clause-routes : goal.take_all-requires-in-Wide-clause-routes
take_all-requires-in-Wide-clause-routes = grind (arith, common_steps)
