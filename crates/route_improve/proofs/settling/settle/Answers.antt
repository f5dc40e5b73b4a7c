use Rattle.std.proofs.Common.{◌≡◌, ◌∙◌, ◌≤◌, List, arith, length, subst, sym}
use Rattle.ev_model.specs.Network.{Network}
use Rattle.route_improve.specs.Arranged.{AreArranged}
use Rattle.route_improve.specs.Routes.{AreRoutes, AreSettledTo, cost_of_routes}
use Rattle.route_improve.specs.declared.route.Route.{Route}
use Rattle.route_improve.proofs.RouteOrders.{arranged_cost, arranged_routes}
use Rattle.route_improve.proofs.PlaceLooks.{at_same}
use Rattle.route_improve.proofs.settling.settle.Goals as goal
use Rattle.route_improve.proofs.settling.settle.Goals.{In_ok-routes}

-- the routes in order
in_order : (g : _) (c : In_ok-routes g) → AreRoutes c.args.pricer.now c.in_ok-routes.routes.items
in_order g c = arranged_routes c.args.pricer.now c.loop-routes.routes.items c.in_ok-routes.routes.items c.in_ok-routes.ensures c.loop-routes.invariant.routes

no_dearer : (g : _) (c : In_ok-routes g) → cost_of_routes c.in_ok-routes.routes.items ≡ cost_of_routes c.loop-routes.routes.items
no_dearer g c = arranged_cost c.args.pricer.now c.loop-routes.routes.items c.in_ok-routes.routes.items c.in_ok-routes.ensures c.loop-routes.invariant.routes

pub pass-requires : goal.pass-requires
pass-requires g c = subst (λ (h : Network). AreRoutes h c.in_ok-routes.routes.items) (sym c.loop-routes.invariant.network) (in_order g (goal.at.pass-requires g c).In_ok-routes)

pub returns-then-not-branch-clause-orderly : goal.returns-then-not-branch-clause-orderly
returns-then-not-branch-clause-orderly g c =
    let same = c.in_ok-pass.ensures.same c.if-not-branch.true in
    record {
      routes_are = subst (AreRoutes c.args.pricer.now) (sym same) (in_order g (goal.at.returns-then-not-branch-clause-orderly g c).In_ok-routes);
      no_more = subst (λ (rs : List Route). cost_of_routes rs ≤ cost_of_routes c.args.routes.items) (sym same) (omega (arith, no_dearer g (goal.at.returns-then-not-branch-clause-orderly g c).In_ok-routes, c.loop-routes.invariant.no_more));
      arranged = (c.loop-routes.routes.items, subst (AreArranged c.loop-routes.routes.items) (sym same) c.in_ok-routes.ensures);
    }

pub returns-then-not-branch-clause-settled : goal.returns-then-not-branch-clause-settled
returns-then-not-branch-clause-settled g c = λ ended.
    let same = c.in_ok-pass.ensures.same c.if-not-branch.true in
    at_same (λ (h : Network) (rs : List Route). AreSettledTo h rs (length rs)) c.args.pricer.now c.loop-routes.pricer c.pass.new.routes.items c.in_ok-routes.routes.items c.loop-routes.invariant.network (sym same)
    (c.in_ok-pass.ensures.settled c.if-not-branch.true ended)

pub loop-routes-smaller : goal.loop-routes-smaller
loop-routes-smaller g c =
    let cheaper = c.in_ok-pass.ensures.made c.if-not-branch.false in
    omega (arith, cheaper.less, no_dearer g (goal.at.loop-routes-smaller g c).In_ok-routes)

pub loop-routes-preserved : goal.loop-routes-preserved
loop-routes-preserved g c =
    let cheaper = c.in_ok-pass.ensures.made c.if-not-branch.false in
    record {
      network = c.pass.ensures.network ∙ c.loop-routes.invariant.network;
      routes = subst (λ (h : Network). AreRoutes h c.pass.new.routes.items) c.loop-routes.invariant.network cheaper.routes;
      stays = λ was. c.pass.ensures.stays (c.loop-routes.invariant.stays was);
      no_more = omega (arith, cheaper.less, no_dearer g (goal.at.loop-routes-preserved g c).In_ok-routes, c.loop-routes.invariant.no_more);
    }
