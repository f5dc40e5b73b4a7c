use Rattle.std.proofs.Common.{◌∙◌, subst, sym}
use Rattle.ev_model.specs.Route.{IsRoute}
use Rattle.order_pricing.proofs.OrderRoutes.{route_of_order}
use Rattle.order_pricing.proofs.charging.fastest_plan.Goals as goal

pub solve_route-requires-clause-route : goal.solve_route-requires-clause-route
solve_route-requires-clause-route c =
    subst (IsRoute c.args.inst.now) (sym (c.deref.ensures.value ∙ c.in_ok-route.ensures))
    (route_of_order c.args.inst.now c.args.order.now c.nodes-nodes.ensures.network c.requires.order c.requires.some)
