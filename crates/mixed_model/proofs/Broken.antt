-- The first broken rule of a plan.
use Rattle.std.proofs.Common.{◌≡◌, ◌≢◌, ◌↔◌, ℕ, ◌<◌, List, [], ◌∷◌, true, Some, Result, Ok, Err, length, get_or, refl, sym, ap, subst, arith, inl, inr}
use Rattle.std.specs.List.{All}
use Rattle.std.specs.Prelude.{slice_get}
use Rattle.std.proofs.lemmas.List.Elements.{All-cons, All-get_or, All-head, All-nil, All-tail}
use Rattle.std.proofs.lemmas.Option.{get_or_from_slice_get, slice_get-get_or, slice_get_within}
use Rattle.ev_model.specs.Feasible.{IsFeasible}
use Rattle.ev_model.specs.Fleet.{all_customers, customers_of, ServesOnly, times_in}
use Rattle.ev_model.specs.Network.{is_customer, Network, node_count}
use Rattle.ev_model.specs.declared.Stop.{Stop}
use Rattle.route_plan.specs.Walking.{walk_along}
use Rattle.route_plan.specs.declared.plan.RoutePlan.{RoutePlan}
use Rattle.route_plan.specs.declared.walks.Walk.{Walk as WalkEnd}
use Rattle.route_plan.specs.declared.walks.WalkFault.{WalkFault}
use Rattle.route_plan.proofs.Feasibly.{walked_is_feasible}
use Rattle.route_plan.proofs.Walked.{feasible_is_walked}
use Rattle.plan_check.specs.FleetRules.{ComesBefore, IsBroken as IsPlainBroken, stops_of}
use Rattle.plan_check.specs.LaterRules.{HasEnds, IsFirstLater, IsLater, KeepsLater, ServesEachOnce}
use Rattle.plan_check.specs.Tallies.{AllKnown, AreKnown}
use Rattle.plan_check.specs.declared.fault.PlanFault.{PlanFault}
use Rattle.plan_check.specs.declared.fault.PlanFault.TheVariants.{EmptyRoute, Stray, Twice, Unserved, Walk}
use Rattle.plan_check.proofs.FleetPlans.{keeping_is_serving}
use Rattle.plan_check.proofs.Walks.{plan_known}
use Rattle.mixed_model.specs.Kinds.{Agrees, AreKinds, first_of, network_of, no_network}
use Rattle.mixed_model.specs.Meaning.{kind_plan, kind_plans}
use Rattle.mixed_model.specs.Plans.{IsFeasibleIn, IsMixedPlan, KindPlan, plain_plans}
use Rattle.mixed_model.specs.declared.proof.MixedRoute.{MixedRoute}
use Rattle.mixed_model.specs.MixedRules.{FailsWalk, IsBroken, IsFirstBroken, IsFirstWalk, plain_routes}
use Rattle.mixed_model.proofs.Walks.{Walked}

-- ---- the rules behind the walks are those of the routes without their kinds

to_plain : (kinds : List Network) (plan : List MixedRoute) (fault : PlanFault) → IsLater fault → IsBroken kinds plan fault → IsPlainBroken (first_of kinds) (plain_routes plan) fault
to_plain kinds plan (Walk route reason) later broken = absurd (omega (arith, later))
to_plain kinds plan (Twice customer) later broken = broken
to_plain kinds plan (Unserved customer) later broken = broken
to_plain kinds plan (EmptyRoute route) later broken = broken
to_plain kinds plan (Stray route at) later broken = broken

from_plain : (kinds : List Network) (plan : List MixedRoute) (fault : PlanFault) → IsLater fault → IsPlainBroken (first_of kinds) (plain_routes plan) fault → IsBroken kinds plan fault
from_plain kinds plan (Walk route reason) later broken = absurd (omega (arith, later))
from_plain kinds plan (Twice customer) later broken = broken
from_plain kinds plan (Unserved customer) later broken = broken
from_plain kinds plan (EmptyRoute route) later broken = broken
from_plain kinds plan (Stray route at) later broken = broken

-- ---- the walks

walks_on : (kinds : List Network) (r : MixedRoute) (reason : WalkFault) → Walked kinds r → FailsWalk kinds r reason → ⊥
walks_on kinds r reason feasible fails =
    let g = network_of kinds r.kind in
    let well = feasible_is_walked g g.capacity r.plan.stops feasible in
    cc

at_route : (P : MixedRoute → Type 0) (plan : List MixedRoute) (i : ℕ) (r : MixedRoute) → All P plan → slice_get plan i ≡ Some r → P r
at_route P plan i r all at = subst P (get_or_from_slice_get plan i r r at) (All-get_or P plan i r (slice_get_within plan i r at) all)

-- where all routes are walked to their ends, each broken rule is behind the walks
only_later : (kinds : List Network) (plan : List MixedRoute) → All (Walked kinds) plan → (fault : PlanFault) → IsBroken kinds plan fault → IsLater fault
only_later kinds plan walked (Walk route reason) broken = absurd (walks_on kinds broken.0 reason (at_route (Walked kinds) plan route broken.0 walked broken.1) broken.2)
only_later kinds plan walked (Twice customer) broken = omega arith
only_later kinds plan walked (Unserved customer) broken = omega arith
only_later kinds plan walked (EmptyRoute route) broken = omega arith
only_later kinds plan walked (Stray route at) broken = omega arith

module _ (kinds : List Network) (plan : List MixedRoute) where
  earlier : (fault : PlanFault) (w : IsFirstWalk kinds plan fault) (other : PlanFault) → IsBroken kinds plan other → ComesBefore other (Walk w.route w.reason) → ⊥
  earlier fault w (Walk route reason) broken (inl rule) = omega (arith, rule)
  earlier fault w (Walk route reason) broken (inr (inl below)) = walks_on kinds broken.0 reason (w.before route broken.0 below.1 broken.1) broken.2
  earlier fault w (Walk route reason) broken (inr (inr position)) = omega (arith, position.2)
  earlier fault w (Twice customer) broken before = omega (arith, before)
  earlier fault w (Unserved customer) broken before = omega (arith, before)
  earlier fault w (EmptyRoute route) broken before = omega (arith, before)
  earlier fault w (Stray route at) broken before = omega (arith, before)

  pub walk_is_first : (fault : PlanFault) → IsFirstWalk kinds plan fault → IsFirstBroken kinds plan fault
  walk_is_first fault w = subst (IsFirstBroken kinds plan) (sym w.is) (record { broken = (w.own, w.there, w.fails); first = earlier fault w })

  pub later_is_first : (fault : PlanFault) → All (Walked kinds) plan → IsFirstLater (first_of kinds) (plain_routes plan) fault → IsFirstBroken kinds plan fault
  later_is_first fault walked w = record {
    broken = from_plain kinds plan fault w.later w.broken;
    first = λ other broken before.
        let later = only_later kinds plan walked other broken in
        w.first other later (to_plain kinds plan other later broken) before;
  }

-- ---- plans

module _ (P : List Stop → Type 0) where
  stops_to : (plan : List MixedRoute) → All P (stops_of (plain_routes plan)) → All (λ (p : KindPlan). P p.stops) (kind_plans plan)
  stops_to [] all = All-nil (λ (p : KindPlan). P p.stops)
  stops_to (r ∷ rs) all =
      All-cons (λ (p : KindPlan). P p.stops) (kind_plan r) (kind_plans rs) (All-head P r.plan.stops (stops_of (plain_routes rs)) all) (stops_to rs (All-tail P r.plan.stops (stops_of (plain_routes rs)) all))

  stops_from : (plan : List MixedRoute) → All (λ (p : KindPlan). P p.stops) (kind_plans plan) → All P (stops_of (plain_routes plan))
  stops_from [] all = All-nil P
  stops_from (r ∷ rs) all =
      let Q = λ (p : KindPlan). P p.stops in
      All-cons P r.plan.stops (stops_of (plain_routes rs)) (All-head Q (kind_plan r) (kind_plans rs) all) (stops_from rs (All-tail Q (kind_plan r) (kind_plans rs) all))

  routes_to : (Q : MixedRoute → Type 0) → ((r : MixedRoute) → Q r → P r.plan.stops) → (plan : List MixedRoute) → All Q plan → All P (stops_of (plain_routes plan))
  routes_to Q to [] all = All-nil P
  routes_to Q to (r ∷ rs) all = All-cons P r.plan.stops (stops_of (plain_routes rs)) (to r (All-head Q r rs all)) (routes_to Q to rs (All-tail Q r rs all))

same_stops : (plan : List MixedRoute) → stops_of (plain_routes plan) ≡ plain_plans (kind_plans plan)
same_stops [] = refl
same_stops (r ∷ rs) = ap (λ (l : List (List Stop)). r.plan.stops ∷ l) (same_stops rs)

-- what holds of each route holds of it as a plan of its kind
module _ (Q : KindPlan → Type 0) where
  kinds_to : (plan : List MixedRoute) → All (λ r. Q (kind_plan r)) plan → All Q (kind_plans plan)
  kinds_to [] all = All-nil Q
  kinds_to (r ∷ rs) all =
      let P = λ (r : MixedRoute). Q (kind_plan r) in
      All-cons Q (kind_plan r) (kind_plans rs) (All-head P r rs all) (kinds_to rs (All-tail P r rs all))

  kinds_from : (plan : List MixedRoute) → All Q (kind_plans plan) → All (λ r. Q (kind_plan r)) plan
  kinds_from [] all = All-nil (λ (r : MixedRoute). Q (kind_plan r))
  kinds_from (r ∷ rs) all =
      All-cons (λ (r : MixedRoute). Q (kind_plan r)) r rs (All-head Q (kind_plan r) (kind_plans rs) all) (kinds_from rs (All-tail Q (kind_plan r) (kind_plans rs) all))

feasible_ends : (g : Network) (start : ℕ) (stops : List Stop) → IsFeasible g 1 start stops → HasEnds stops
feasible_ends g start [] feasible = absurd feasible.plan
feasible_ends g start (first ∷ ss) feasible = (feasible.plan.1, feasible.plan.2)

walked_ends : (kinds : List Network) (plan : List MixedRoute) → All (Walked kinds) plan → All HasEnds (stops_of (plain_routes plan))
walked_ends kinds plan walked = routes_to HasEnds (Walked kinds) (λ r feasible. let g = network_of kinds r.kind in feasible_ends g g.capacity r.plan.stops feasible) plan walked

abbrev pub IsKnown : List Network → MixedRoute → Type 0
IsKnown kinds r = r.kind < length kinds

abbrev IsOnce : Network → List (List Stop) → Type 0
IsOnce g l = (node : ℕ) → node < node_count g → is_customer g node ≡ true → times_in (all_customers g l) node ≡ 1

module _ (kinds : List Network) (plan : List MixedRoute) (known : All (IsKnown kinds) plan) where
  pub kept_is_plan : All (Walked kinds) plan → KeepsLater (first_of kinds) (plain_routes plan) → IsMixedPlan kinds 1 (kind_plans plan)
  kept_is_plan walked keeps =
      let g = first_of kinds in
      let serves = (keeping_is_serving g (plain_routes plan) (walked_ends kinds plan walked)).0 keeps in
      record {
        known = kinds_to (λ (p : KindPlan). p.kind < length kinds) plan known;
        feasible = kinds_to (IsFeasibleIn kinds 1) plan walked;
        some = stops_to (λ (stops : List Stop). customers_of g stops ≢ []) plan serves.some;
        only = stops_to (ServesOnly g) plan serves.only;
        once = subst (λ (l : List (List Stop)). IsOnce g l) (same_stops plan) serves.once;
      }

  -- the nodes of the stops are those of the first kind
  pub all_known : AreKinds kinds → All (Walked kinds) plan → AllKnown (first_of kinds) (plain_routes plan)
  all_known are walked = at_each plan known walked
    where
      here : (r : MixedRoute) → IsKnown kinds r → Walked kinds r → AreKnown (first_of kinds) r.plan.stops
      here r within feasible =
          let agrees = All-get_or (Agrees (first_of kinds)) kinds r.kind no_network within are.agree in
          subst (λ (n : ℕ). All (λ (s : Stop). s.node < n) r.plan.stops) agrees.nodes (plan_known (network_of kinds r.kind) r.plan.stops feasible)

      at_each : (rs : List MixedRoute) → All (IsKnown kinds) rs → All (Walked kinds) rs → AllKnown (first_of kinds) (plain_routes rs)
      at_each [] within feasible = All-nil (λ (p : RoutePlan). AreKnown (first_of kinds) p.stops)
      at_each (r ∷ rs) within feasible =
          All-cons (λ (p : RoutePlan). AreKnown (first_of kinds) p.stops) r.plan (plain_routes rs) (here r (All-head (IsKnown kinds) r rs within) (All-head (Walked kinds) r rs feasible))
          (at_each rs (All-tail (IsKnown kinds) r rs within) (All-tail (Walked kinds) r rs feasible))

  -- ---- a plan breaks no rule, and what breaks none is a plan

  plan_keeps : IsMixedPlan kinds 1 (kind_plans plan) → (fault : PlanFault) → IsBroken kinds plan fault → ⊥
  plan_keeps is fault broken =
      let g = first_of kinds in
      let walked = kinds_from (IsFeasibleIn kinds 1) plan is.feasible in
      let serves : ServesEachOnce g (plain_plans (kind_plans plan)) = record { some = plain_all (λ (stops : List Stop). customers_of g stops ≢ []) is.some; only = plain_all (ServesOnly g) is.only; once = is.once } in
      let keeps = (keeping_is_serving g (plain_routes plan) (walked_ends kinds plan walked)).1 (subst (ServesEachOnce g) (sym (same_stops plan)) serves) in
      let later = only_later kinds plan walked fault broken in
      keeps fault later (to_plain kinds plan fault later broken)
    where
      plain_all : (P : List Stop → Type 0) → All (λ (p : KindPlan). P p.stops) (kind_plans plan) → All P (plain_plans (kind_plans plan))
      plain_all P all = subst (All P) (same_stops plan) (stops_from P plan all)

  walked_unless : (r : MixedRoute) (answer : Result WalkEnd WalkFault) → walk_along (network_of kinds r.kind) (network_of kinds r.kind).capacity r.plan.stops ≡ answer → ((reason : WalkFault) → FailsWalk kinds r reason → ⊥) → Walked kinds r
  walked_unless r (Ok w) is none = (walked_is_feasible (network_of kinds r.kind) (network_of kinds r.kind).capacity r.plan.stops w is).0
  walked_unless r (Err reason) is none = absurd (none reason is)

  unbroken_is_plan : ((fault : PlanFault) → IsBroken kinds plan fault → ⊥) → IsMixedPlan kinds 1 (kind_plans plan)
  unbroken_is_plan none = kept_is_plan walked (λ fault later broken. none fault (from_plain kinds plan fault later broken))
    where
      walked : All (Walked kinds) plan
      walked i d within =
          let r = get_or plan i d in
          let g = network_of kinds r.kind in
          walked_unless r (walk_along g g.capacity r.plan.stops) refl (λ reason fails. none (Walk i reason) (r, slice_get-get_or plan i d within, fails))

  pub plan_breaks_none : IsMixedPlan kinds 1 (kind_plans plan) ↔ ((fault : PlanFault) → IsBroken kinds plan fault → ⊥)
  plan_breaks_none = (plan_keeps, unbroken_is_plan)
