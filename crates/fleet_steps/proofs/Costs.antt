-- What a fleet plan costs is small where the plan may stand in a text.
use Rattle.std.proofs.Common.{◌≡◌, ℕ, ◌*◌, ◌^◌, ◌≤◌, List, [], ◌∷◌, Option, None, Some, IfSome, arith, length, subst, sym}
use Rattle.std.specs.List.{All}
use Rattle.std.proofs.lemmas.List.{length-map}
use Rattle.std.proofs.lemmas.List.Elements.{All-head, All-tail}
use Rattle.std.proofs.lemmas.Option.{same_Some}
use Rattle.ev_model.specs.Feasible.{IsFeasible}
use Rattle.ev_model.specs.Fleet.{cost_of}
use Rattle.ev_model.specs.Network.{IsNetwork, Network, scaled_limit}
use Rattle.ev_model.specs.Time.{time_of}
use Rattle.ev_model.specs.declared.Stop.{Stop}
use Rattle.fleet_steps.specs.PlanFile.{IsValid}
use Rattle.plan_check.specs.FleetRules.{stops_of}
use Rattle.route_plan.specs.PlanTexts.{FitsFile}
use Rattle.route_plan.specs.declared.plan.FleetPlan.{FleetPlan}

cost_within : (g : Network) (plans : List (List Stop)) → IsNetwork g → All (IsFeasible g 1 g.capacity) plans → cost_of g 1 plans ≤ length plans * 10 ^ 18
cost_within g [] network feasible = omega arith
cost_within g (stops ∷ plans) network feasible =
    let first = All-head (IsFeasible g 1 g.capacity) stops plans feasible in
    let rest : cost_of g 1 plans ≤ length plans * 10 ^ 18 = cost_within g plans network (All-tail (IsFeasible g 1 g.capacity) stops plans feasible) in
    let time : time_of g 1 g.capacity stops ≤ 1 * scaled_limit g = first.in_time in
    let limit : scaled_limit g ≤ 10 ^ 18 = network.small_limit in
    omega (arith, time, limit, rest)

small : (cost length : ℕ) → cost ≤ length * 10 ^ 18 → length ≤ 10 ^ 6 → cost ≤ 2 ^ 100
small cost length within few = omega (arith, within, few)

pub small_cost : (g : Network) (plan : Option FleetPlan) (cost : Option ℕ) → IsNetwork g → FitsFile plan → IsValid g plan cost → IfSome cost (λ c. c ≤ 2 ^ 100)
small_cost g plan None network fits valid = tt
small_cost g None (Some c) network fits valid = absurd (cc)
small_cost g (Some p) (Some c) network fits valid =
    let within : cost_of g 1 (stops_of p.routes) ≤ length (stops_of p.routes) * 10 ^ 18 = cost_within g (stops_of p.routes) network valid.0.feasible in
    let count : length (stops_of p.routes) ≡ length p.routes = length-map p.routes (λ r. r.stops) in
    let same : c ≡ cost_of g 1 (stops_of p.routes) = same_Some c (cost_of g 1 (stops_of p.routes)) valid.1 in
    subst (λ (n : ℕ). n ≤ 2 ^ 100) (sym same) (small (cost_of g 1 (stops_of p.routes)) (length (stops_of p.routes)) within (subst (λ (n : ℕ). n ≤ 10 ^ 6) (sym count) fits.0))
