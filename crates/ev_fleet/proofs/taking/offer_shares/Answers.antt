use Rattle.std.proofs.Common.{MatchOption, subst, arith}
use Rattle.std.proofs.lemmas.Grind.{common_steps}
use Rattle.ev_model.specs.Fleet.{IsFleetPlan}
use Rattle.column_pool.specs.Bounds.{plans_of}
use Rattle.ev_fleet.specs.SameRoutes.{IsPlanOf}
use Rattle.ev_fleet.proofs.Routed.{made_fleet}
use Rattle.ev_fleet.proofs.taking.offer_shares.Goals as goal

pub returns-in-Some-clause-greedy : goal.returns-in-Some-clause-greedy
returns-in-Some-clause-greedy c = λ none.
    let g = c.args.inst.now in
    let plans = plans_of c.args.shares.now in
    let is : IsPlanOf g plans c.in-Some.plan =
    subst (λ answer. MatchOption answer (IsFleetPlan g 1 plans → ⊥) (IsPlanOf g plans)) c.in-Some.is c.in_ok-plan.ensures in
    absurd (none (made_fleet g plans c.in-Some.plan is))

pub returns-in-Some-plan_of_routes-clause-taken : goal.returns-in-Some-plan_of_routes-clause-taken
returns-in-Some-plan_of_routes-clause-taken = grind (arith, common_steps)
