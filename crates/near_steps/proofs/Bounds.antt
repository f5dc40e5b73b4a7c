-- What a fleet plan costs is no less than a bound that is true.
use Rattle.std.proofs.Common.{◌≡◌, ℕ, ◌*◌, ◌≤◌, Option, None, Some, arith}
use Rattle.std.proofs.lemmas.Option.{same_Some}
use Rattle.ev_model.specs.Fleet.{cost_of}
use Rattle.ev_model.specs.Network.{Network}
use Rattle.fleet_steps.specs.PlanFile.{IsValid}
use Rattle.near_proof.specs.Truth.{IsTrueNearBound}
use Rattle.plan_check.specs.FleetRules.{stops_of}
use Rattle.report_lines.specs.Lines.{IsBoundOf}
use Rattle.route_plan.specs.declared.plan.FleetPlan.{FleetPlan}

pub is_bound_of_cost : (g : Network) (plan : Option FleetPlan) (cost bound : Option ℕ) → IsValid g plan cost → IsTrueNearBound g bound → IsBoundOf cost bound
is_bound_of_cost g None None bound valid truth = tt
is_bound_of_cost g None (Some c) bound valid truth = absurd (cc)
is_bound_of_cost g (Some p) None bound valid truth = tt
is_bound_of_cost g (Some p) (Some c) None valid truth = tt
is_bound_of_cost g (Some p) (Some c) (Some b) valid truth =
    let le : 1 * b ≤ cost_of g 1 (stops_of p.routes) = truth 1 (stops_of p.routes) valid.0 in
    let same : c ≡ cost_of g 1 (stops_of p.routes) = same_Some c (cost_of g 1 (stops_of p.routes)) valid.1 in
    omega (arith, le, same)
