-- The verdict on a proof: that it is accepted, or the first rule that it breaks.
use Rattle.std.specs.Prelude.{◌≡◌, Some, Err}
use Rattle.ev_model.specs.Feasible.{IsFeasible}
use Rattle.ev_model.specs.Route.{FollowsRoute}
use Rattle.route_plan.specs.Walking.{walk_along}
use Rattle.route_plan.specs.declared.plan.RoutePlan.{RoutePlan}
use Rattle.route_steps.specs.Trips.{Journey}
use Rattle.route_proof.specs.Broken.{IsFirstBroken, Place, at_home, at_start, at_step}
use Rattle.route_proof.specs.Closed.{HasGoodPlan, IsAccepted, bar}
use Rattle.route_proof.specs.declared.proof.RouteProof.{RouteProof}
use Rattle.route_proof.specs.declared.verdict.RouteVerdict.{RouteVerdict}
use Rattle.route_proof.specs.declared.verdict.RouteVerdict.TheVariants.{Accepted, End, Other, Plan, Start, Step}

-- the plan is a good one, and the place is the first where the labels break a rule
abbrev pub BreaksFirst : Journey → RouteProof → Place → Type 0
BreaksFirst t p at = HasGoodPlan t p.plan × IsFirstBroken t (bar t p.plan) p.labels at

abbrev pub IsVerdict : Journey → RouteProof → RouteVerdict → Type 0
IsVerdict t p Accepted = IsAccepted t p
IsVerdict t p (Plan fault) =
    (plan : RoutePlan) × (p.plan ≡ Some plan) ×
    (walk_along t.network t.start plan.stops ≡ Err fault)
IsVerdict t p Other =
    (plan : RoutePlan) × (p.plan ≡ Some plan) × IsFeasible t.network 1 t.start plan.stops ×
    (FollowsRoute t.route plan.stops → ⊥)
IsVerdict t p Start = BreaksFirst t p at_start
IsVerdict t p (Step label node via) = BreaksFirst t p (at_step label node via)
IsVerdict t p (End label) = BreaksFirst t p (at_home label)
