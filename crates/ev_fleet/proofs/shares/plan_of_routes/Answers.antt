use Rattle.std.proofs.Common.{List, sym, subst}
use Rattle.ev_model.specs.Fleet.{IsFleetPlan}
use Rattle.plan_check.specs.FleetRules.{stops_of}
use Rattle.route_plan.specs.declared.plan.RoutePlan.{RoutePlan}
use Rattle.ev_fleet.specs.SameRoutes.{IsPlanOf}
use Rattle.ev_fleet.proofs.Routed.{sorted_fleet, sorted_held}
use Rattle.ev_fleet.proofs.shares.plan_of_routes.Goals as goal

pub returns-in-Ok : goal.returns-in-Ok
returns-in-Ok c =
    let fleet = subst (λ (l : List RoutePlan). IsFleetPlan c.args.inst.now 1 (stops_of l)) c.from_vec.ensures c.in-Ok.ensures.valid in
    subst (λ (l : List RoutePlan). IsPlanOf c.args.inst.now (stops_of c.args.routes.items) (record { routes = l })) (sym c.from_vec.ensures)
    (sorted_held c.args.inst.now c.args.routes.items c.sort_by_first.new.routes.items c.nodes-nodes.ensures.network c.sort_by_first.ensures.same c.sort_by_first.ensures.order fleet)

pub returns-in-Err : goal.returns-in-Err
returns-in-Err c = λ fleet.
    let sorted = subst (λ (l : List RoutePlan). IsFleetPlan c.args.inst.now 1 (stops_of l)) (sym c.from_vec.ensures)
    (sorted_fleet c.args.inst.now c.args.routes.items c.sort_by_first.new.routes.items c.sort_by_first.ensures.same fleet) in
    (c.fleet_plans_break_no_rule.ensures c.args.inst.now c.from_vec.result).0 sorted c.in-Err.field-0 c.in-Err.ensures.broken.broken
