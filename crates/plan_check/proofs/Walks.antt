-- The walks along the routes of a fleet plan.
use Rattle.std.proofs.Common.{◌≡◌, ℕ, suc, ◌+◌, ◌<◌, List, [], ◌∷◌, Some, Result, Ok, Err, get_or, slice_get, refl, sym, ap, subst, arith, zero}
use Rattle.std.proofs.lemmas.List.Elements.{All-cons, All-nil}
use Rattle.std.proofs.lemmas.Option.{same_Some, slice_get-get_or}
use Rattle.ev_model.specs.Feasible.{IsFeasible}
use Rattle.ev_model.specs.Fleet.{cost_of}
use Rattle.ev_model.specs.Network.{Network, node_count}
use Rattle.ev_model.specs.Plan.{AreStopsFrom, EndsAtDepot}
use Rattle.ev_model.specs.declared.Stop.{Stop}
use Rattle.route_plan.specs.Walking.{walk_along}
use Rattle.route_plan.specs.declared.plan.RoutePlan.{RoutePlan}
use Rattle.route_plan.specs.declared.walks.Walk.{Walk as WalkEnd}
use Rattle.route_plan.specs.declared.walks.WalkFault.{WalkFault}
use Rattle.route_plan.proofs.Feasibly.{walked_is_feasible}
use Rattle.plan_check.specs.FirstFaults.{after_walk, cost_from}
use Rattle.plan_check.specs.FleetRules.{stops_of}
use Rattle.plan_check.specs.Tallies.{AllKnown, AreKnown}
use Rattle.plan_check.specs.declared.fault.PlanFault.{PlanFault}
use Rattle.plan_check.specs.declared.fault.PlanFault.TheVariants.{Walk}

goes_on : (route : ℕ) (walk : Result WalkEnd WalkFault) (next : WalkEnd → Result ℕ PlanFault) (cost : ℕ) → after_walk route walk next ≡ Ok cost →
    (w : WalkEnd) × (walk ≡ Ok w) × (next w ≡ Ok cost)
goes_on route (Ok w) next cost is = (w, refl, is)
goes_on route (Err fault) next cost is = absurd (cc)

-- what routes that are walked to their ends come to
pub record AreWalked (g : Network) (plans : List RoutePlan) (before cost : ℕ) : Type 0 where
  pub feasible : (i : ℕ) (p : RoutePlan) → slice_get plans i ≡ Some p → IsFeasible g 1 g.capacity p.stops
  pub sum : cost ≡ before + cost_of g 1 (stops_of plans)

pub cost_from-Ok : (g : Network) (route before cost : ℕ) (plans : List RoutePlan) → cost_from g route before plans ≡ Ok cost → AreWalked g plans before cost
cost_from-Ok g route before cost [] is =
    let same : before ≡ cost = cc in
    record { feasible = λ i p at. absurd (cc); sum = omega (arith, same) }
cost_from-Ok g route before cost (p ∷ ps) is =
    let step = goes_on route (walk_along g g.capacity p.stops) (λ w. cost_from g (route + 1) (before + w.time) ps) cost is in
    let here = walked_is_feasible g g.capacity p.stops step.0 step.1 in
    let rest = cost_from-Ok g (route + 1) (before + step.0.time) cost ps step.2 in
    record {
      feasible = feasible_at g p ps here.0 rest.feasible;
      sum = omega (arith, here.1, rest.sum);
    }
  where
    feasible_at : (g : Network) (p : RoutePlan) (ps : List RoutePlan) → IsFeasible g 1 g.capacity p.stops →
        ((i : ℕ) (q : RoutePlan) → slice_get ps i ≡ Some q → IsFeasible g 1 g.capacity q.stops) →
        (i : ℕ) (q : RoutePlan) → slice_get (p ∷ ps) i ≡ Some q → IsFeasible g 1 g.capacity q.stops
    feasible_at g p ps here rest zero q at = subst (λ (r : RoutePlan). IsFeasible g 1 g.capacity r.stops) (same_Some p q at) here
    feasible_at g p ps here rest (suc i) q at = rest i q at

-- the first walk that breaks a rule
pub record IsFirstWalk (g : Network) (plans : List RoutePlan) (first : ℕ) (fault : PlanFault) : Type 0 where
  pub at : ℕ
  pub plan : RoutePlan
  pub reason : WalkFault
  pub is : fault ≡ Walk (first + at) reason
  pub there : slice_get plans at ≡ Some plan
  pub fails : walk_along g g.capacity plan.stops ≡ Err reason
  pub before : (i : ℕ) (p : RoutePlan) (other : WalkFault) → i < at → slice_get plans i ≡ Some p → walk_along g g.capacity p.stops ≡ Err other → ⊥

module _ (g : Network) (route before : ℕ) (p : RoutePlan) (ps : List RoutePlan) (fault : PlanFault) where
  fails_here : (reason : WalkFault) → walk_along g g.capacity p.stops ≡ Err reason → Walk route reason ≡ fault → IsFirstWalk g (p ∷ ps) route fault
  fails_here reason fails is = record {
    at = 0;
    plan = p;
    reason = reason;
    is = let none : route + 0 ≡ route = omega arith in rw none (sym is);
    there = refl;
    fails = fails;
    before = λ i q other below at. absurd (omega (arith, below));
  }

  fails_later : (w : WalkEnd) → walk_along g g.capacity p.stops ≡ Ok w → IsFirstWalk g ps (route + 1) fault → IsFirstWalk g (p ∷ ps) route fault
  fails_later w walks rest = record {
    at = suc rest.at;
    plan = rest.plan;
    reason = rest.reason;
    is = let next : route + 1 + rest.at ≡ route + suc rest.at = omega arith in rw next at rest.is;
    there = rest.there;
    fails = rest.fails;
    before = earlier;
  }
    where
      earlier : (i : ℕ) (q : RoutePlan) (other : WalkFault) → i < suc rest.at → slice_get (p ∷ ps) i ≡ Some q → walk_along g g.capacity q.stops ≡ Err other → ⊥
      earlier zero q other below at fails =
          let same : p ≡ q = same_Some p q at in
          let fails_too : walk_along g g.capacity p.stops ≡ Err other = rw same fails in
          cc
      earlier (suc i) q other below at fails = rest.before i q other (omega (arith, below)) at fails

  fails_in : (walk : Result WalkEnd WalkFault) → walk_along g g.capacity p.stops ≡ walk → after_walk route walk (λ w. cost_from g (route + 1) (before + w.time) ps) ≡ Err fault →
      ((w : WalkEnd) → cost_from g (route + 1) (before + w.time) ps ≡ Err fault → IsFirstWalk g ps (route + 1) fault) → IsFirstWalk g (p ∷ ps) route fault
  fails_in (Ok w) walk is rest = fails_later w walk (rest w is)
  fails_in (Err reason) walk is rest = let same : Walk route reason ≡ fault = cc in fails_here reason walk same

pub cost_from-Err : (g : Network) (route before : ℕ) (plans : List RoutePlan) (fault : PlanFault) → cost_from g route before plans ≡ Err fault → IsFirstWalk g plans route fault
cost_from-Err g route before [] fault is = absurd (cc)
cost_from-Err g route before (p ∷ ps) fault is =
    fails_in g route before p ps fault (walk_along g g.capacity p.stops) refl is (λ w. cost_from-Err g (route + 1) (before + w.time) ps fault)

-- ---- the nodes of a route that is walked to its end

stops_known : (g : Network) (from : ℕ) (ss : List Stop) → AreStopsFrom g from ss → AreKnown g ss
stops_known g from [] stops = All-nil (λ (s : Stop). s.node < node_count g)
stops_known g from (s ∷ ss) stops = All-cons (λ (s : Stop). s.node < node_count g) s ss stops.1.known (stops_known g s.node ss stops.2)

some_known : (g : Network) (from : ℕ) (ss : List Stop) → AreStopsFrom g from ss → EndsAtDepot ss → 0 < node_count g
some_known g from [] stops ends = absurd ends
some_known g from (s ∷ ss) stops ends = omega (arith, stops.1.known)

pub plan_known : (g : Network) (stops : List Stop) → IsFeasible g 1 g.capacity stops → AreKnown g stops
plan_known g [] feasible = absurd feasible.plan
plan_known g (first ∷ ss) feasible =
    let plan = feasible.plan in
    let depot : first.node ≡ 0 = ap (λ (s : Stop). s.node) plan.1 in
    let begins : first.node < node_count g = rw depot (some_known g first.node ss plan.3 plan.2) in
    All-cons (λ (s : Stop). s.node < node_count g) first ss begins (stops_known g first.node ss plan.3)

pub all_known : (g : Network) (cost : ℕ) (plans : List RoutePlan) → cost_from g 0 0 plans ≡ Ok cost → AllKnown g plans
all_known g cost plans is =
    let walks = cost_from-Ok g 0 0 cost plans is in
    λ k d within. plan_known g (get_or plans k d).stops (walks.feasible k (get_or plans k d) (slice_get-get_or plans k d within))
