-- The plans of shares as a fleet plan.
use Rattle.std.proofs.Common.{◌≡◌, List, [], ◌∷◌, map, refl, ap}
use Rattle.std.specs.List.Sorted.{IsNonDecreasingBy, IsPermutation}
use Rattle.std.proofs.lemmas.List.Sorted.{IsPermutation-map, IsPermutation-sym}
use Rattle.ev_model.specs.Fleet.{IsFleetPlan}
use Rattle.ev_model.specs.Network.{IsNetwork, Network}
use Rattle.ev_model.specs.declared.Stop.{Stop}
use Rattle.bound_certificate.specs.declared.certificate.Share.{Share}
use Rattle.column_pool.specs.Bounds.{plans_of}
use Rattle.plan_check.specs.FleetRules.{stops_of}
use Rattle.route_plan.specs.declared.plan.FleetPlan.{FleetPlan}
use Rattle.route_plan.specs.declared.plan.RoutePlan.{RoutePlan}
use Rattle.set_partitioning.specs.FirstCustomers.{first_outside}
use Rattle.ev_fleet.specs.SameRoutes.{IsPlanOf}
use Rattle.ev_fleet.proofs.HeldPlans.{firsts_rise, may_hold}
use Rattle.ev_fleet.proofs.Permuted.{permuted_cost, permuted_fleet}

pub stops_of_shares : (shares : List Share) → stops_of (map (λ (x : Share). x.plan) shares) ≡ plans_of shares
stops_of_shares [] = refl
stops_of_shares (x ∷ shares) = ap (λ (plans : List (List Stop)). x.plan.stops ∷ plans) (stops_of_shares shares)

same_stops : (routes sorted : List RoutePlan) → IsPermutation routes sorted → IsPermutation (stops_of routes) (stops_of sorted)
same_stops routes sorted same = IsPermutation-map (λ (p : RoutePlan). p.stops) routes sorted same

pub sorted_held : (g : Network) (routes sorted : List RoutePlan) → IsNetwork g → IsPermutation routes sorted → IsNonDecreasingBy (λ (p : RoutePlan). first_outside p.stops) sorted
    → IsFleetPlan g 1 (stops_of sorted) → IsPlanOf g (stops_of routes) (record { routes = sorted })
sorted_held g routes sorted network same order fleet =
    let plans = same_stops routes sorted same in
    record {
      held = may_hold g (record { routes = sorted }) network fleet (firsts_rise g sorted fleet order);
      same = plans;
      cost = permuted_cost g 1 (stops_of routes) (stops_of sorted) plans;
    }

pub sorted_fleet : (g : Network) (routes sorted : List RoutePlan) → IsPermutation routes sorted → IsFleetPlan g 1 (stops_of routes) → IsFleetPlan g 1 (stops_of sorted)
sorted_fleet g routes sorted same fleet = permuted_fleet g 1 (stops_of routes) (stops_of sorted) (same_stops routes sorted same) fleet

-- routes that a fleet plan is made of are one
pub made_fleet : (g : Network) (plans : List (List Stop)) (plan : FleetPlan) → IsPlanOf g plans plan → IsFleetPlan g 1 plans
made_fleet g plans plan is = permuted_fleet g 1 (stops_of plan.routes) plans (IsPermutation-sym plans (stops_of plan.routes) is.same) is.held.fleet
