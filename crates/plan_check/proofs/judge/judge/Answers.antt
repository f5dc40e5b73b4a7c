use Rattle.std.proofs.Common.{◌≡◌, ◌∙◌, List, None, Some, Err, Ok, arith, sym, subst}
use Rattle.std.proofs.lemmas.Result.{err_from_is_err_and}
use Rattle.route_plan.specs.declared.plan.RoutePlan.{RoutePlan}
use Rattle.plan_check.specs.FirstFaults.{cost_from, later_fault}
use Rattle.plan_check.specs.Tallies.{AllKnown}
use Rattle.plan_check.proofs.VisitCounts.{plans_by_own}
use Rattle.plan_check.proofs.Firsts.{first_of_all, later_first, none_broken, none_later, walk_first}
use Rattle.plan_check.proofs.FleetPlans.{unbroken_is_fleet_plan}
use Rattle.plan_check.proofs.Walks.{all_known, cost_from-Ok}
use Rattle.plan_check.proofs.judge.judge.Goals as goal
use Rattle.plan_check.proofs.judge.judge.Goals.{In_ok-cost}

-- all routes are walked to their ends
walks : (c : In_ok-cost) → cost_from c.args.inst.now 0 0 c.args.routes.now ≡ Ok c.in_ok-cost.cost
walks c = sym c.cost_of_routes.ensures ∙ c.in_ok-cost.was

pub returns-in_err-cost-clause-broken : goal.returns-in_err-cost-clause-broken
returns-in_err-cost-clause-broken c =
    let returned = err_from_is_err_and c.from_residual.result c.from_residual.ensures.1 in
    let fails : cost_from c.args.inst.now 0 0 c.args.routes.now ≡ Err c.in_err-cost.field-0.0 =
    sym c.cost_of_routes.ensures ∙ c.in_err-cost.was in
    rw (returned.1, returned.2) (walk_first c.args.inst.now c.args.routes.now c.in_err-cost.field-0.0 fails)

pub later_fault-requires-clause-known : goal.later_fault-requires-clause-known
later_fault-requires-clause-known c =
    subst (λ (l : List RoutePlan). AllKnown c.args.inst.now l) (sym (plans_by_own c.args.routes.now))
    (all_known c.args.inst.now c.in_ok-cost.cost c.args.routes.now (sym c.cost_of_routes.ensures ∙ c.in_ok-cost.was))

pub returns-in-Some-clause-broken : goal.returns-in-Some-clause-broken
returns-in-Some-clause-broken c =
    let g = c.args.inst.now in
    let routes = c.args.routes.now in
    let found : later_fault g routes ≡ Some c.in-Some.fault =
    subst (λ (l : List RoutePlan). later_fault g l ≡ Some c.in-Some.fault) (plans_by_own routes) (sym c.later_fault.ensures ∙ c.in-Some.is) in
    first_of_all g routes c.in_ok-cost.cost c.in-Some.fault (walks (goal.at.returns-in-Some-clause-broken c).In_ok-cost) (later_first g routes c.in-Some.fault found)

pub returns-in-None-clause-valid : goal.returns-in-None-clause-valid
returns-in-None-clause-valid c =
    let g = c.args.inst.now in
    let routes = c.args.routes.now in
    let found : later_fault g routes ≡ None = subst (λ (l : List RoutePlan). later_fault g l ≡ None) (plans_by_own routes) (sym c.later_fault.ensures ∙ c.in-None.is) in
    unbroken_is_fleet_plan g routes (none_broken g routes c.in_ok-cost.cost (walks (goal.at.returns-in-None-clause-valid c).In_ok-cost) (none_later g routes found))

pub returns-in-None-clause-cost : goal.returns-in-None-clause-cost
returns-in-None-clause-cost c =
    let w = cost_from-Ok c.args.inst.now 0 0 c.in_ok-cost.cost c.args.routes.now (walks (goal.at.returns-in-None-clause-cost c).In_ok-cost) in
    omega (arith, w.sum)
