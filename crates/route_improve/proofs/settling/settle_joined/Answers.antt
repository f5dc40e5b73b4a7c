use Rattle.std.proofs.Common.{◌∙◌, List, arith, length, subst, sym}
use Rattle.ev_model.specs.Network.{Network}
use Rattle.route_improve.specs.Arranged.{AreOrderly}
use Rattle.route_improve.specs.Routes.{AreRoutes, AreSettledTo}
use Rattle.route_improve.specs.declared.route.Route.{Route}
use Rattle.route_improve.proofs.Clocks.{not_before}
use Rattle.route_improve.proofs.PlaceLooks.{at_same}
use Rattle.route_improve.proofs.settling.settle_joined.Goals as goal
use Rattle.route_improve.proofs.settling.settle_joined.Goals.{In_ok-routes}

-- the routes in order
orderly_are : (g : _) (c : In_ok-routes g) → AreOrderly c.args.pricer.now c.loop-routes.routes.items c.in_ok-routes.routes.items
orderly_are g c = subst (λ (h : Network). AreOrderly h c.loop-routes.routes.items c.in_ok-routes.routes.items) c.loop-routes.invariant.network c.in_ok-routes.ensures.orderly

pub settle-requires : goal.settle-requires
settle-requires g c = subst (λ (h : Network). AreRoutes h c.loop-routes.routes.items) (sym c.loop-routes.invariant.network) c.loop-routes.invariant.routes

pub join_routes-requires : goal.join_routes-requires
join_routes-requires g c =
    let is = orderly_are g (goal.at.join_routes-requires g c).In_ok-routes in
    subst (λ (h : Network). AreRoutes h c.in_ok-routes.routes.items) (sym (c.settle.ensures.network ∙ c.loop-routes.invariant.network)) is.routes_are

pub returns-then-not-branch-clause-orderly : goal.returns-then-not-branch-clause-orderly
returns-then-not-branch-clause-orderly g c =
    let is = orderly_are g (goal.at.returns-then-not-branch-clause-orderly g c).In_ok-routes in
    let same = c.in_ok-join_routes.ensures.same c.if-not-branch.true in
    subst (AreOrderly c.args.pricer.now c.args.routes.items) (sym same) (record {
      routes_are = is.routes_are;
      no_more = omega (arith, is.no_more, c.loop-routes.invariant.no_more);
      arranged = is.arranged;
    })

pub returns-then-not-branch-clause-settled : goal.returns-then-not-branch-clause-settled
returns-then-not-branch-clause-settled g c = λ ended.
    let same = c.in_ok-join_routes.ensures.same c.if-not-branch.true in
    let settled = c.in_ok-routes.ensures.settled (not_before _ _ c.join_routes.ensures.stays ended) in
    at_same (λ (h : Network) (rs : List Route). AreSettledTo h rs (length rs)) c.args.pricer.now c.loop-routes.pricer c.join_routes.new.routes.items c.in_ok-routes.routes.items c.loop-routes.invariant.network (sym same)
    settled

pub loop-routes-smaller : goal.loop-routes-smaller
loop-routes-smaller g c =
    let is = orderly_are g (goal.at.loop-routes-smaller g c).In_ok-routes in
    let cheaper = c.in_ok-join_routes.ensures.made c.if-not-branch.false in
    omega (arith, cheaper.less, is.no_more)

pub loop-routes-preserved : goal.loop-routes-preserved
loop-routes-preserved g c =
    let is = orderly_are g (goal.at.loop-routes-preserved g c).In_ok-routes in
    let cheaper = c.in_ok-join_routes.ensures.made c.if-not-branch.false in
    let network = c.settle.ensures.network ∙ c.loop-routes.invariant.network in
    record {
      network = c.join_routes.ensures.network ∙ network;
      routes = subst (λ (h : Network). AreRoutes h c.join_routes.new.routes.items) network cheaper.routes;
      stays = λ was. c.join_routes.ensures.stays (c.settle.ensures.stays (c.loop-routes.invariant.stays was));
      no_more = omega (arith, cheaper.less, is.no_more, c.loop-routes.invariant.no_more);
    }
