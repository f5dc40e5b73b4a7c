use Rattle.ev_model.specs.Fleet.{cost_of}
use Rattle.plan_check.specs.FleetRules.{stops_of}
use Rattle.route_improve.proofs.OwnRoutes.{own_costs, own_routes_are}
use Rattle.route_improve.proofs.improving.improve_none.Goals as goal

pub settled_plan-requires-clause-routes : goal.settled_plan-requires-clause-routes
settled_plan-requires-clause-routes g c = own_routes_are c.args.inst.now c.in-Ok.routes.items c.in-Ok.ensures.own

pub returns : goal.returns
returns g c =
    (c.in_ok-plan.ensures.moved, own_costs c.args.inst.now c.in-Ok.routes.items (cost_of c.args.inst.now 1 (stops_of c.in_ok-plan.plan.routes)) c.in-Ok.ensures.own c.in_ok-plan.ensures.no_more)
