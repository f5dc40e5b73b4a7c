use Rattle.std.proofs.Common.{◌∙◌, List, length, subst, sym, arith}
use Rattle.std.proofs.lemmas.Grind.{common_steps}
use Rattle.ev_model.specs.Network.{Network}
use Rattle.route_plan.specs.declared.plan.FleetPlan.{FleetPlan}
use Rattle.route_improve.specs.Arranged.{AreOrderly, are_served}
use Rattle.route_improve.specs.Finished.{ArePlansOf}
use Rattle.route_improve.specs.Routes.{AreNoDearer, AreRoutes, AreSettledTo}
use Rattle.route_improve.specs.declared.route.Route.{Route}
use Rattle.route_improve.proofs.Answered.{moved_unless, plan_costs, plan_is_improved, plan_is_orderly}
use Rattle.route_improve.proofs.Joined.{orderly_of}
use Rattle.route_improve.proofs.Made.{kept_by}
use Rattle.route_improve.proofs.improving.settled_plan.Goals as goal
use Rattle.route_improve.proofs.improving.settled_plan.Goals.{In_ok-settled}

-- the routes in order
orderly_are : (g : _) (c : In_ok-settled g) → AreOrderly c.args.inst.now c.args.routes.items c.in_ok-settled.settled.items
orderly_are g c =
    let joined = subst (λ (h : Network). AreNoDearer h c.args.routes.items c.join_routes.new.routes.items) c.requires.network c.in_ok-join_routes.ensures.joined in
    let orderly = subst (λ (h : Network). AreOrderly h c.join_routes.new.routes.items c.in_ok-settled.settled.items) (c.join_routes.ensures.network ∙ c.requires.network) c.in_ok-settled.ensures.orderly in
    orderly_of c.args.inst.now c.args.routes.items c.join_routes.new.routes.items c.in_ok-settled.settled.items joined orderly

pub join_routes-requires : goal.join_routes-requires
join_routes-requires g c = subst (λ (h : Network). AreRoutes h c.args.routes.items) (sym c.requires.network) c.requires.routes

pub settle_joined-requires : goal.settle_joined-requires
settle_joined-requires g c = subst (λ (h : Network). AreRoutes h c.join_routes.new.routes.items) (sym c.join_routes.ensures.network) c.in_ok-join_routes.ensures.joined.routes

pub returns-clause-moved : goal.returns-clause-moved
returns-clause-moved g c =
    let is = orderly_are g (goal.at.returns-clause-moved g c).In_ok-settled in
    kept_by c.plan_of.result _ _ (λ (plan : FleetPlan) plans.
    let plans_are = subst (λ (rs : List Route). ArePlansOf c.args.inst.now (are_served rs) plan.routes) c.deref.ensures.value plans in
    moved_unless c.args.inst.now (g.C.MoveClock.has_ended c.settle_joined.new.clock) plan.routes
    (plan_is_orderly c.args.inst.now is.arranged.0 c.in_ok-settled.settled.items plan.routes is.routes_are is.arranged.1 plans_are c.nodes-nodes.ensures.network)
    (λ ended. plan_is_improved c.args.inst.now is.arranged.0 c.in_ok-settled.settled.items plan.routes is.routes_are is.arranged.1 plans_are c.nodes-nodes.ensures.network
    (subst (λ (h : Network). AreSettledTo h c.in_ok-settled.settled.items (length c.in_ok-settled.settled.items)) (c.join_routes.ensures.network ∙ c.requires.network) (c.in_ok-settled.ensures.settled ended))))
    c.plan_of.ensures

pub returns-clause-no_more : goal.returns-clause-no_more
returns-clause-no_more g c =
    let is = orderly_are g (goal.at.returns-clause-no_more g c).In_ok-settled in
    kept_by c.plan_of.result _ _ (λ (plan : FleetPlan) plans.
    let costs = plan_costs c.args.inst.now is.arranged.0 c.in_ok-settled.settled.items plan.routes is.routes_are is.arranged.1
    (subst (λ (rs : List Route). ArePlansOf c.args.inst.now (are_served rs) plan.routes) c.deref.ensures.value plans) in
    omega (arith, costs, is.no_more))
    c.plan_of.ensures

pub plan_of-requires : goal.plan_of-requires
plan_of-requires = grind (arith, common_steps)
