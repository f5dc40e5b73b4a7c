use Rattle.std.proofs.Common.{◌≡◌, ◌∙◌, ◌+◌, ◌<◌, List, get_or, length, subst, sym, take}
use Rattle.ev_model.specs.Feasible.{IsFeasible}
use Rattle.ev_model.specs.Fleet.{ServesOnly, customers_of}
use Rattle.ev_model.specs.declared.Stop.{Stop}
use Rattle.route_plan.specs.declared.plan.RoutePlan.{RoutePlan}
use Rattle.order_pricing.specs.Orders.{IsOrder}
use Rattle.route_improve.specs.Begun.{AreRoutesOf, IsRouteOf}
use Rattle.route_improve.proofs.FirstRoutes.{all_taken, at_plan, begun_cost, begun_more, begun_routes, order_at}
use Rattle.route_improve.proofs.begin.routes_of.Goals as goal
use Rattle.route_improve.proofs.begin.routes_of.Goals.{After-as_slice}

-- the plan of this step
item_is : (c : After-as_slice) → c.own-item.result ≡ get_or c.args.plan.now.routes c.loop-own.own-index c.own-item.result
item_is c = subst (λ (l : List RoutePlan). c.own-item.result ≡ get_or l c.loop-own.own-index c.own-item.result) c.as_slice-own-items.ensures c.own-item.is

within : (c : After-as_slice) → c.loop-own.own-index < length c.args.plan.now.routes
within c = subst (λ (l : List RoutePlan). c.loop-own.own-index < length l) c.as_slice-own-items.ensures c.loop-own-test.true

pub route_of-requires-clause-feasible : goal.route_of-requires-clause-feasible
route_of-requires-clause-feasible c =
    subst (IsFeasible c.args.inst.now 1 c.args.inst.now.capacity) (sym c.as_slice.ensures)
    (at_plan (IsFeasible c.args.inst.now 1 c.args.inst.now.capacity) c.args.plan.now.routes c.loop-own.own-index c.own-item.result c.requires.fleet.feasible (within (goal.at.route_of-requires-clause-feasible c).After-as_slice)
    (item_is (goal.at.route_of-requires-clause-feasible c).After-as_slice))

pub route_of-requires-clause-only : goal.route_of-requires-clause-only
route_of-requires-clause-only c =
    subst (ServesOnly c.args.inst.now) (sym c.as_slice.ensures)
    (at_plan (ServesOnly c.args.inst.now) c.args.plan.now.routes c.loop-own.own-index c.own-item.result c.requires.fleet.only (within (goal.at.route_of-requires-clause-only c).After-as_slice)
    (item_is (goal.at.route_of-requires-clause-only c).After-as_slice))

pub route_of-requires-clause-order : goal.route_of-requires-clause-order
route_of-requires-clause-order c =
    subst (λ (stops : List Stop). IsOrder c.args.inst.now (customers_of c.args.inst.now stops)) (sym c.as_slice.ensures)
    (order_at c.args.inst.now c.args.plan.now.routes c.loop-own.own-index c.own-item.result c.requires.fleet (within (goal.at.route_of-requires-clause-order c).After-as_slice) (item_is (goal.at.route_of-requires-clause-order c).After-as_slice))

pub loop-own-preserved : goal.loop-own-preserved
loop-own-preserved c = record {
  network = c.route_of.ensures.network ∙ c.loop-own.invariant.network;
  routes = subst (AreRoutesOf c.args.inst.now (take (c.loop-own.own-index + 1) c.args.plan.now.routes)) (sym c.in_ok-push.ensures.items)
      (begun_more c.args.inst.now c.args.plan.now.routes c.loop-own.routes.items c.loop-own.own-index c.own-item.result c.in_ok-route_of.field-0 (within (goal.at.loop-own-preserved c).After-as_slice) (item_is (goal.at.loop-own-preserved c).After-as_slice)
      c.loop-own.invariant.routes (subst (λ (stops : List Stop). IsRouteOf c.args.inst.now stops c.in_ok-route_of.field-0) c.as_slice.ensures c.in_ok-route_of.ensures.route));
}

pub returns-clause-routes : goal.returns-clause-routes
returns-clause-routes c =
    begun_routes c.args.inst.now c.args.plan.now.routes c.loop-own.routes.items c.requires.fleet
    (all_taken c.args.inst.now c.args.plan.now.routes c.as_slice-own-items.result.now c.loop-own.own-index c.loop-own.routes.items c.as_slice-own-items.ensures c.loop-own-test.false c.loop-own.invariant.routes)

pub returns-clause-no_more : goal.returns-clause-no_more
returns-clause-no_more c =
    begun_cost c.args.inst.now c.args.plan.now.routes c.loop-own.routes.items
    (all_taken c.args.inst.now c.args.plan.now.routes c.as_slice-own-items.result.now c.loop-own.own-index c.loop-own.routes.items c.as_slice-own-items.ensures c.loop-own-test.false c.loop-own.invariant.routes)
