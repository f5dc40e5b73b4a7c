-- A fleet plan is one of which no rule is broken.
use Rattle.std.proofs.Common.{◌≡◌, ◌≢◌, ◌↔◌, ◌∙◌, ℕ, ◌<◌, All, List, [], ◌∷◌, Result, Ok, Err, length, get_or, refl, ap, subst, arith}
use Rattle.std.proofs.lemmas.List.{get_or-map, length-map}
use Rattle.std.proofs.lemmas.List.Elements.{All-get_or, All-map, All-weaker}
use Rattle.std.proofs.lemmas.Option.{get_or_from_slice_get, slice_get-get_or, slice_get_within}
use Rattle.ev_model.specs.Feasible.{IsFeasible}
use Rattle.ev_model.specs.Fleet.{IsFleetPlan, ServesOnly, customers_of}
use Rattle.ev_model.specs.Network.{Network}
use Rattle.ev_model.specs.declared.Stop.{Stop}
use Rattle.route_plan.specs.Walking.{walk_along}
use Rattle.route_plan.specs.declared.plan.RoutePlan.{RoutePlan}
use Rattle.route_plan.specs.declared.walks.Walk.{Walk as WalkEnd}
use Rattle.route_plan.specs.declared.walks.WalkFault.{WalkFault}
use Rattle.route_plan.proofs.Feasibly.{walked_is_feasible}
use Rattle.route_plan.proofs.Walked.{feasible_is_walked}
use Rattle.plan_check.specs.FleetRules.{IsBroken, IsRouteAt, IsStray, stops_of, times_served}
use Rattle.plan_check.specs.LaterRules.{HasEnds, KeepsLater, ServesEachOnce}
use Rattle.plan_check.specs.declared.fault.PlanFault.{PlanFault}
use Rattle.plan_check.specs.declared.fault.PlanFault.TheVariants.{EmptyRoute, Stray, Twice, Unserved, Walk}
use Rattle.plan_check.proofs.Served.{no_stray, serves_only}

-- what holds of the stops of all routes holds at each, and the other way round
at_route : (P : List Stop → Type 0) (plans : List RoutePlan) (i : ℕ) (p : RoutePlan) → All P (stops_of plans) → IsRouteAt plans i p → P p.stops
at_route P plans i p all at =
    let within = slice_get_within plans i p at in
    let long : i < length (stops_of plans) = rw length-map within in
    let same : get_or (stops_of plans) i p.stops ≡ p.stops =
    get_or-map (λ p. p.stops) plans i p p.stops within ∙ ap (λ (q : RoutePlan). q.stops) (get_or_from_slice_get plans i p p at) in
    subst P same (All-get_or P (stops_of plans) i p.stops long all)

all_routes : (P : List Stop → Type 0) (plans : List RoutePlan) → ((i : ℕ) (p : RoutePlan) → IsRouteAt plans i p → P p.stops) → All P (stops_of plans)
all_routes P plans each = All-map P (λ p. p.stops) plans (λ k d within. each k (get_or plans k d) (slice_get-get_or plans k d within))

only_without_stray : (g : Network) (stops : List Stop) → HasEnds stops → ((at : ℕ) → IsStray g stops at → ⊥) → ServesOnly g stops
only_without_stray g [] ends none = absurd ends
only_without_stray g (first ∷ ss) ends none = serves_only g first ss ends.0 ends.1 none

feasible_ends : (g : Network) (stops : List Stop) → IsFeasible g 1 g.capacity stops → HasEnds stops
feasible_ends g [] feasible = absurd feasible.plan
feasible_ends g (first ∷ ss) feasible = (feasible.plan.1, feasible.plan.2)

-- plans with their ends at the depot serve each customer once where no rule behind the walks is broken
pub serves_each : (g : Network) (plans : List RoutePlan) → KeepsLater g plans → All HasEnds (stops_of plans) → ServesEachOnce g (stops_of plans)
serves_each g plans none ends = record {
  some = all_routes (λ stops. customers_of g stops ≢ []) plans (λ i p at empty. none (EmptyRoute i) (omega arith) (p, at, empty));
  only = all_routes (ServesOnly g) plans (λ i p at. only_without_stray g p.stops (at_route HasEnds plans i p ends at) (λ place astray. none (Stray i place) (omega arith) (p, at, astray)));
  once = λ node known customer.
      let not_twice : 1 < times_served g plans node → ⊥ = λ more. none (Twice node) (omega arith) ((known, customer), more) in
      let not_unserved : times_served g plans node ≡ 0 → ⊥ = λ zero. none (Unserved node) (omega arith) ((known, customer), zero) in
      omega (arith, not_twice, not_unserved);
}

without_stray : (g : Network) (stops : List Stop) → HasEnds stops → ServesOnly g stops → (at : ℕ) → IsStray g stops at → ⊥
without_stray g [] ends only = absurd ends
without_stray g (first ∷ ss) ends only = no_stray g first ss ends.0 ends.1 only

-- and the other way round
serving_keeps : (g : Network) (plans : List RoutePlan) → ServesEachOnce g (stops_of plans) → All HasEnds (stops_of plans) → KeepsLater g plans
serving_keeps g plans serves ends (Walk route reason) later broken = omega (arith, later)
serving_keeps g plans serves ends (Twice customer) later broken = omega (arith, serves.once customer broken.0.0 broken.0.1, broken.1)
serving_keeps g plans serves ends (Unserved customer) later broken = omega (arith, serves.once customer broken.0.0 broken.0.1, broken.1)
serving_keeps g plans serves ends (EmptyRoute route) later broken = at_route (λ stops. customers_of g stops ≢ []) plans route broken.0 serves.some broken.1 broken.2
serving_keeps g plans serves ends (Stray route at) later broken =
    without_stray g broken.0.stops (at_route HasEnds plans route broken.0 ends broken.1) (at_route (ServesOnly g) plans route broken.0 serves.only broken.1) at broken.2

pub keeping_is_serving : (g : Network) (plans : List RoutePlan) → All HasEnds (stops_of plans) → KeepsLater g plans ↔ ServesEachOnce g (stops_of plans)
keeping_is_serving g plans ends = (λ keeps. serves_each g plans keeps ends, λ serves. serving_keeps g plans serves ends)

pub fleet_plan_keeps : (g : Network) (plans : List RoutePlan) → IsFleetPlan g 1 (stops_of plans) → (fault : PlanFault) → IsBroken g plans fault → ⊥
fleet_plan_keeps g plans fleet = by
  where
    keeps : KeepsLater g plans
    keeps = serving_keeps g plans (record { some = fleet.some; only = fleet.only; once = fleet.once }) (All-weaker (IsFeasible g 1 g.capacity) HasEnds (feasible_ends g) (stops_of plans) fleet.feasible)

    by : (fault : PlanFault) → IsBroken g plans fault → ⊥
    by (Walk route reason) broken =
        let well = feasible_is_walked g g.capacity broken.0.stops (at_route (IsFeasible g 1 g.capacity) plans route broken.0 fleet.feasible broken.1) in
        let fails : walk_along g g.capacity broken.0.stops ≡ Err reason = broken.2 in
        cc
    by (Twice customer) broken = keeps (Twice customer) (omega arith) broken
    by (Unserved customer) broken = keeps (Unserved customer) (omega arith) broken
    by (EmptyRoute route) broken = keeps (EmptyRoute route) (omega arith) broken
    by (Stray route at) broken = keeps (Stray route at) (omega arith) broken

feasible_unless : (g : Network) (stops : List Stop) (answer : Result WalkEnd WalkFault) → walk_along g g.capacity stops ≡ answer →
    ((reason : WalkFault) → walk_along g g.capacity stops ≡ Err reason → ⊥) → IsFeasible g 1 g.capacity stops
feasible_unless g stops (Ok w) is none = (walked_is_feasible g g.capacity stops w is).0
feasible_unless g stops (Err reason) is none = absurd (none reason is)

pub unbroken_is_fleet_plan : (g : Network) (plans : List RoutePlan) → ((fault : PlanFault) → IsBroken g plans fault → ⊥) → IsFleetPlan g 1 (stops_of plans)
unbroken_is_fleet_plan g plans none =
    let serves = serves_each g plans (λ fault later broken. none fault broken) (all_routes HasEnds plans (λ i p at. feasible_ends g p.stops (feasible i p at))) in
    record {
      feasible = all_routes (IsFeasible g 1 g.capacity) plans feasible;
      some = serves.some;
      only = serves.only;
      once = serves.once;
    }
  where
    feasible : (i : ℕ) (p : RoutePlan) → IsRouteAt plans i p → IsFeasible g 1 g.capacity p.stops
    feasible i p at = feasible_unless g p.stops (walk_along g g.capacity p.stops) refl (λ reason fails. none (Walk i reason) (p, at, fails))
