-- A fleet plan whose routes are in rising order may be held: it may be written as text.
use Rattle.std.proofs.Common.{◌≢◌, ℕ, ◌<◌, ◌≤◌, List, [], length, get_or, map, subst, arith}
use Rattle.std.specs.List.{All}
use Rattle.std.specs.List.Sorted.{IsNonDecreasingBy, IsStrictlyIncreasing}
use Rattle.std.proofs.lemmas.List.{get_or-map, length-map}
use Rattle.std.proofs.lemmas.List.Elements.{All-get_or}
use Rattle.ev_model.specs.Feasible.{IsFeasible}
use Rattle.ev_model.specs.Fleet.{IsFleetPlan, ServesOnly, customers_of}
use Rattle.ev_model.specs.Network.{IsNetwork, Network, node_count}
use Rattle.ev_model.specs.declared.Stop.{Stop}
use Rattle.fleet_model.proofs.Fleets.{plan_below}
use Rattle.plan_check.specs.FleetRules.{stops_of}
use Rattle.route_plan.specs.declared.plan.FleetPlan.{FleetPlan}
use Rattle.route_plan.specs.declared.plan.RoutePlan.{RoutePlan}
use Rattle.route_plan.proofs.PlanRanges.{feasible_fits}
use Rattle.set_partitioning.specs.FirstCustomers.{first_outside}
use Rattle.set_partitioning.proofs.FirstCustomers.{AreApart, few_routes, firsts_rise as rise_in_order}
use Rattle.ev_fleet.specs.Plans.{IsHeld, first_customer}

abbrev stops_in : RoutePlan → List Stop
stops_in p = p.stops

-- what holds of the stops of all routes holds at each
at_route : (P : List Stop → Type 0) (ps : List RoutePlan) (k : ℕ) (d : RoutePlan) → k < length ps → All P (stops_of ps) → P (get_or ps k d).stops
at_route P ps k d within all =
    let long : k < length (stops_of ps) = rw length-map within in
    subst P (get_or-map stops_in ps k d d.stops within) (All-get_or P (stops_of ps) k d.stops long all)

are_apart : (g : Network) (ps : List RoutePlan) → IsFleetPlan g 1 (stops_of ps) → AreApart stops_in g ps
are_apart g ps fleet = record {
  some = λ k d within. at_route (λ stops. customers_of g stops ≢ []) ps k d within fleet.some;
  only = λ k d within. at_route (ServesOnly g) ps k d within fleet.only;
  below = λ k d within. plan_below g 1 g.capacity (get_or ps k d).stops (at_route (IsFeasible g 1 g.capacity) ps k d within fleet.feasible);
  once = λ x less is. (let one = fleet.once x less is in omega (arith, one));
}

-- routes of a fleet plan in order of these stops are in rising order of their first customers
pub firsts_rise : (g : Network) (ps : List RoutePlan) → IsFleetPlan g 1 (stops_of ps) → IsNonDecreasingBy (λ (p : RoutePlan). first_outside p.stops) ps → IsStrictlyIncreasing (map (first_customer g) ps)
firsts_rise g ps fleet up = rise_in_order stops_in g ps (are_apart g ps fleet) up

pub may_hold : (g : Network) (plan : FleetPlan) → IsNetwork g → IsFleetPlan g 1 (stops_of plan.routes) → IsStrictlyIncreasing (map (first_customer g) plan.routes) → IsHeld g plan
may_hold g plan network fleet order =
    let routes : length plan.routes ≤ node_count g = few_routes stops_in g plan.routes (are_apart g plan.routes fleet) order in
    record {
      fleet = fleet;
      order = order;
      text = (
        omega (arith, routes, network.few_nodes),
        λ k d within. feasible_fits g g.capacity (get_or plan.routes k d).stops network (at_route (IsFeasible g 1 g.capacity) plan.routes k d within fleet.feasible),
      );
    }
