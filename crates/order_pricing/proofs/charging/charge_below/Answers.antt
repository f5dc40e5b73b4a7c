use Rattle.std.proofs.Common.{◌∙◌, subst, sym}
use Rattle.ev_model.specs.Network.{Network}
use Rattle.ev_model.specs.Route.{IsRoute}
use Rattle.order_pricing.proofs.OrderRoutes.{route_of_order}
use Rattle.order_pricing.proofs.charging.charge_below.Goals as goal

pub solve_below-requires-clause-route : goal.solve_below-requires-clause-route
solve_below-requires-clause-route c =
    subst (λ (g : Network). IsRoute g c.deref.result.now) (sym c.requires.bounds)
    (subst (IsRoute c.args.inst.now) (sym (c.deref.ensures.value ∙ c.in_ok-route.ensures))
    (route_of_order c.args.inst.now c.args.order.now c.nodes-nodes.ensures.network c.requires.order c.requires.some))
