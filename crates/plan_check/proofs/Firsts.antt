-- The first broken rule of plans.
use Rattle.std.proofs.Common.{◌≡◌, ◌∙◌, ℕ, ◌+◌, ◌<◌, ◌≤◌, ◌⊎◌, false, not, List, Option, None, Some, Ok, Err, nat_lt, refl, sym, subst, arith, inl, inr}
use Rattle.std.proofs.lemmas.Bool.{ltb-false, ltb-true, not-false, not-true}
use Rattle.std.proofs.lemmas.Option.{same_Some}
use Rattle.ev_model.specs.Network.{Network}
use Rattle.route_plan.specs.Walking.{walk_along}
use Rattle.route_plan.specs.declared.plan.RoutePlan.{RoutePlan}
use Rattle.route_plan.proofs.Walked.{feasible_is_walked}
use Rattle.plan_check.specs.FirstFaults.{cost_from, first_empty, first_stray_from, first_twice, first_unserved, later_fault, or_empty, or_unserved}
use Rattle.route_plan.specs.FirstPlaces.{or_later}
use Rattle.plan_check.specs.FleetRules.{ComesBefore, IsBroken, IsCustomer, IsFirstBroken, IsRouteAt, IsStray, subject_of, position_of, rule_of, times_served}
use Rattle.plan_check.specs.LaterRules.{IsFirstLater, IsLater, KeepsLater}
use Rattle.plan_check.specs.declared.fault.PlanFault.{PlanFault}
use Rattle.plan_check.specs.declared.fault.PlanFault.TheVariants.{EmptyRoute, Stray, Twice, Unserved, Walk}
use Rattle.plan_check.proofs.Customers.{first_customer, no_customer}
use Rattle.plan_check.proofs.Routes.{IsEmpty, IsFirstRoute, IsFirstStrayOf, first_empty-None, first_empty-Some, first_stray_from-None, first_stray_from-Some, or_later-None}
use Rattle.plan_check.proofs.Walks.{AreWalked, IsFirstWalk, cost_from-Err, cost_from-Ok}

-- no rule behind the walks and before this one is broken
abbrev pub KeepsBefore : Network → List RoutePlan → ℕ → Type 0
KeepsBefore g plans rule = (fault : PlanFault) → IsLater fault → IsBroken g plans fault → rule ≤ rule_of fault

-- one rule more
keeps_more : (g : Network) (plans : List RoutePlan) (rule : ℕ) → KeepsBefore g plans rule → ((fault : PlanFault) → IsBroken g plans fault → rule_of fault ≡ rule → ⊥) → KeepsBefore g plans (rule + 1)
keeps_more g plans rule keeps none fault later broken =
    let differs : rule_of fault ≡ rule → ⊥ = none fault broken in
    omega (arith, differs, keeps fault later broken)

-- a fault of the same rule at an earlier place
abbrev EarlierInRule : PlanFault → PlanFault → Type 0
EarlierInRule other fault = (subject_of other < subject_of fault) ⊎ ((subject_of other ≡ subject_of fault) × (position_of other < position_of fault))

is_first : (g : Network) (plans : List RoutePlan) (fault : PlanFault) → IsLater fault → IsBroken g plans fault → KeepsBefore g plans (rule_of fault) →
    ((other : PlanFault) → IsBroken g plans other → rule_of other ≡ rule_of fault → EarlierInRule other fault → ⊥) → IsFirstLater g plans fault
is_first g plans fault later broken keeps none = record {
  later = later;
  broken = broken;
  first = λ other behind breaks before. elim before [
    | inl rule ↦ omega (arith, rule, keeps other behind breaks)
    | inr after ↦ elim after [
      | inl place ↦ none other breaks place.0 (inl place.1)
      | inr position ↦ none other breaks position.0 (inr (position.1, position.2))
    ]
  ];
}

-- ---- the walks

keeps_none : (g : Network) (plans : List RoutePlan) → KeepsBefore g plans 2
keeps_none g plans fault later broken = omega (arith, later)

-- where all routes are walked to their ends, each broken rule is behind the walks
only_later : (g : Network) (plans : List RoutePlan) (before cost : ℕ) → AreWalked g plans before cost → (fault : PlanFault) → IsBroken g plans fault → IsLater fault
only_later g plans before cost walks (Walk route reason) broken =
    let well = feasible_is_walked g g.capacity broken.0.stops (walks.feasible route broken.0 broken.1) in
    let fails : walk_along g g.capacity broken.0.stops ≡ Err reason = broken.2 in
    absurd (cc)
only_later g plans before cost walks (Twice customer) broken = omega arith
only_later g plans before cost walks (Unserved customer) broken = omega arith
only_later g plans before cost walks (EmptyRoute route) broken = omega arith
only_later g plans before cost walks (Stray route at) broken = omega arith

pub walk_first : (g : Network) (plans : List RoutePlan) (fault : PlanFault) → cost_from g 0 0 plans ≡ Err fault → IsFirstBroken g plans fault
walk_first g plans fault is =
    let w = cost_from-Err g 0 0 plans fault is in
    let same : 0 + w.at ≡ w.at = omega arith in
    let is_walk : fault ≡ Walk w.at w.reason = rw same at w.is in
    rw is_walk (record { broken = (w.plan, w.there, w.fails); first = earlier w })
  where
    earlier : (w : IsFirstWalk g plans 0 fault) (other : PlanFault) → IsBroken g plans other → ComesBefore other (Walk w.at w.reason) → ⊥
    earlier w (Walk route reason) broken (inl rule) = omega (arith, rule)
    earlier w (Walk route reason) broken (inr (inl below)) = w.before route broken.0 reason below.1 broken.1 broken.2
    earlier w (Walk route reason) broken (inr (inr position)) = omega (arith, position.2)
    earlier w (Twice customer) broken before = omega (arith, before)
    earlier w (Unserved customer) broken before = omega (arith, before)
    earlier w (EmptyRoute route) broken before = omega (arith, before)
    earlier w (Stray route at) broken before = omega (arith, before)

-- ---- customers that are served twice, and not at all

module _ (g : Network) (plans : List RoutePlan) (keeps : KeepsBefore g plans 2) where
  twice_first : (customer : ℕ) → first_twice g plans ≡ Some customer → IsFirstLater g plans (Twice customer)
  twice_first customer is =
      let found = first_customer g (λ node. nat_lt 1 (times_served g plans node)) customer is in
      is_first g plans (Twice customer) (omega arith) (found.customer, ltb-true 1 (times_served g plans customer) found.passes) keeps (earlier found.first)
    where
      earlier : ((other : ℕ) → IsCustomer g other → other < customer → nat_lt 1 (times_served g plans other) ≡ false) →
          (other : PlanFault) → IsBroken g plans other → rule_of other ≡ 2 → EarlierInRule other (Twice customer) → ⊥
      earlier first (Twice node) broken same (inl below) = omega (arith, ltb-false 1 (times_served g plans node) (first node broken.0 below), broken.1)
      earlier first (Twice node) broken same (inr position) = omega (arith, position.1)
      earlier first other broken same place = omega (arith, same)

  twice_keeps : first_twice g plans ≡ None → KeepsBefore g plans 3
  twice_keeps is = keeps_more g plans 2 keeps none
    where
      none : (fault : PlanFault) → IsBroken g plans fault → rule_of fault ≡ 2 → ⊥
      none (Twice node) broken same =
          let fails = no_customer g (λ node. nat_lt 1 (times_served g plans node)) is node broken.0 in
          omega (arith, ltb-false 1 (times_served g plans node) fails, broken.1)
      none other broken same = omega (arith, same)

module _ (g : Network) (plans : List RoutePlan) (keeps : KeepsBefore g plans 3) where
  unserved_first : (customer : ℕ) → first_unserved g plans ≡ Some customer → IsFirstLater g plans (Unserved customer)
  unserved_first customer is =
      let found = first_customer g (λ node. not (nat_lt 0 (times_served g plans node))) customer is in
      let none = ltb-false 0 (times_served g plans customer) (not-true (nat_lt 0 (times_served g plans customer)) found.passes) in
      is_first g plans (Unserved customer) (omega arith) (found.customer, omega (arith, none)) keeps (earlier found.first)
    where
      earlier : ((other : ℕ) → IsCustomer g other → other < customer → not (nat_lt 0 (times_served g plans other)) ≡ false) →
          (other : PlanFault) → IsBroken g plans other → rule_of other ≡ 3 → EarlierInRule other (Unserved customer) → ⊥
      earlier first (Unserved node) broken same (inl below) =
          omega (arith, ltb-true 0 (times_served g plans node) (not-false (nat_lt 0 (times_served g plans node)) (first node broken.0 below)), broken.1)
      earlier first (Unserved node) broken same (inr position) = omega (arith, position.1)
      earlier first other broken same place = omega (arith, same)

  unserved_keeps : first_unserved g plans ≡ None → KeepsBefore g plans 4
  unserved_keeps is = keeps_more g plans 3 keeps none
    where
      none : (fault : PlanFault) → IsBroken g plans fault → rule_of fault ≡ 3 → ⊥
      none (Unserved node) broken same =
          let fails = no_customer g (λ node. not (nat_lt 0 (times_served g plans node))) is node broken.0 in
          omega (arith, ltb-true 0 (times_served g plans node) (not-false (nat_lt 0 (times_served g plans node)) fails), broken.1)
      none other broken same = omega (arith, same)

-- ---- routes without a customer, and with a stray stop

module _ (g : Network) (plans : List RoutePlan) (keeps : KeepsBefore g plans 4) where
  empty_first : (route : ℕ) → first_empty g 0 plans ≡ Some route → IsFirstLater g plans (EmptyRoute route)
  empty_first route is =
      let found = first_empty-Some g 0 route plans is in
      let place : found.place ≡ route = omega (arith, found.is) in
      let there : IsRouteAt plans route found.plan = subst (λ (i : ℕ). IsRouteAt plans i found.plan) place found.there in
      is_first g plans (EmptyRoute route) (omega arith) (found.plan, there, found.holds) keeps (earlier found)
    where
      earlier : IsFirstRoute (IsEmpty g) plans 0 route → (other : PlanFault) → IsBroken g plans other → rule_of other ≡ 4 → EarlierInRule other (EmptyRoute route) → ⊥
      earlier found (EmptyRoute i) broken same (inl below) = found.first i broken.0 (omega (arith, below, found.is)) broken.1 broken.2
      earlier found (EmptyRoute i) broken same (inr position) = omega (arith, position.1)
      earlier found other broken same place = omega (arith, same)

  empty_keeps : first_empty g 0 plans ≡ None → KeepsBefore g plans 5
  empty_keeps is = keeps_more g plans 4 keeps none
    where
      none : (fault : PlanFault) → IsBroken g plans fault → rule_of fault ≡ 4 → ⊥
      none (EmptyRoute route) broken same = first_empty-None g 0 plans is route broken.0 broken.1 broken.2
      none other broken same = omega (arith, same)

module _ (g : Network) (plans : List RoutePlan) (keeps : KeepsBefore g plans 5) where
  stray_first : (fault : PlanFault) → first_stray_from g 0 plans ≡ Some fault → IsFirstLater g plans fault
  stray_first fault is =
      let found = first_stray_from-Some g 0 fault plans is in
      let place : found.first.place ≡ found.route = omega (arith, found.first.is) in
      let there : IsRouteAt plans found.route found.first.plan = subst (λ (i : ℕ). IsRouteAt plans i found.first.plan) place found.first.there in
      rw (found.is) (is_first g plans (Stray found.route found.at) (omega arith) (found.first.plan, there, found.place.is) keeps (earlier found there))
    where
      earlier : (found : IsFirstStrayOf g plans 0 fault) → IsRouteAt plans found.route found.first.plan →
          (other : PlanFault) → IsBroken g plans other → rule_of other ≡ 5 → EarlierInRule other (Stray found.route found.at) → ⊥
      earlier found there (Stray route at) broken same (inl below) = found.first.first route broken.0 (omega (arith, below, found.first.is)) broken.1 (at, broken.2)
      earlier found there (Stray route at) broken same (inr position) =
          let here : IsRouteAt plans found.route broken.0 = subst (λ (i : ℕ). IsRouteAt plans i broken.0) position.0 broken.1 in
          let plan : broken.0 ≡ found.first.plan = same_Some broken.0 found.first.plan (sym here ∙ there) in
          found.place.first at position.1 (subst (λ (p : RoutePlan). IsStray g p.stops at) plan broken.2)
      earlier found there other broken same place = omega (arith, same)

  stray_keeps : first_stray_from g 0 plans ≡ None → KeepsBefore g plans 6
  stray_keeps is = keeps_more g plans 5 keeps none
    where
      none : (fault : PlanFault) → IsBroken g plans fault → rule_of fault ≡ 5 → ⊥
      none (Stray route at) broken same = first_stray_from-None g 0 plans is route broken.0 broken.1 (at, broken.2)
      none other broken same = omega (arith, same)

rules_are_five : (fault : PlanFault) → rule_of fault < 6
rules_are_five (Walk route reason) = omega arith
rules_are_five (Twice customer) = omega arith
rules_are_five (Unserved customer) = omega arith
rules_are_five (EmptyRoute route) = omega arith
rules_are_five (Stray route at) = omega arith

-- ---- all rules behind the walks

at_place : (found : Option ℕ) (at : ℕ → PlanFault) (later : Option PlanFault) (fault : PlanFault) → or_later found at later ≡ Some fault →
    ((place : ℕ) × (found ≡ Some place) × (at place ≡ fault)) ⊎ ((found ≡ None) × (later ≡ Some fault))
at_place None at later fault is = inr (refl, is)
at_place (Some place) at later fault is = inl (place, refl, same_Some (at place) fault is)

pub later_first : (g : Network) (plans : List RoutePlan) (fault : PlanFault) → later_fault g plans ≡ Some fault → IsFirstLater g plans fault
later_first g plans fault is =
    elim (at_place (first_twice g plans) (λ customer. Twice customer) (or_unserved g plans) fault is) [
      | inl twice ↦ subst (IsFirstLater g plans) twice.2 (twice_first g plans (keeps_none g plans) twice.0 twice.1)
      | inr once ↦
          let no_twice = twice_keeps g plans (keeps_none g plans) once.0 in
          elim (at_place (first_unserved g plans) (λ customer. Unserved customer) (or_empty g plans) fault once.1) [
            | inl unserved ↦ subst (IsFirstLater g plans) unserved.2 (unserved_first g plans no_twice unserved.0 unserved.1)
            | inr served ↦
                let all_served = unserved_keeps g plans no_twice served.0 in
                elim (at_place (first_empty g 0 plans) (λ route. EmptyRoute route) (first_stray_from g 0 plans) fault served.1) [
                  | inl empty ↦ subst (IsFirstLater g plans) empty.2 (empty_first g plans all_served empty.0 empty.1)
                  | inr filled ↦ stray_first g plans (empty_keeps g plans all_served filled.0) fault filled.1
                ]
          ]
    ]

pub none_later : (g : Network) (plans : List RoutePlan) → later_fault g plans ≡ None → KeepsLater g plans
none_later g plans is fault later broken =
    let once = or_later-None (first_twice g plans) (λ customer. Twice customer) (or_unserved g plans) is in
    let served = or_later-None (first_unserved g plans) (λ customer. Unserved customer) (or_empty g plans) once.1 in
    let filled = or_later-None (first_empty g 0 plans) (λ route. EmptyRoute route) (first_stray_from g 0 plans) served.1 in
    let no_twice = twice_keeps g plans (keeps_none g plans) once.0 in
    let all_served = unserved_keeps g plans no_twice served.0 in
    let none_empty = empty_keeps g plans all_served filled.0 in
    let none_stray = stray_keeps g plans none_empty filled.1 in
    omega (arith, none_stray fault later broken, rules_are_five fault)

-- ---- all rules

pub first_of_all : (g : Network) (plans : List RoutePlan) (cost : ℕ) (fault : PlanFault) → cost_from g 0 0 plans ≡ Ok cost → IsFirstLater g plans fault → IsFirstBroken g plans fault
first_of_all g plans cost fault walks first =
    let walked = cost_from-Ok g 0 0 cost plans walks in
    record { broken = first.broken; first = λ other broken before. first.first other (only_later g plans 0 cost walked other broken) broken before }

pub none_broken : (g : Network) (plans : List RoutePlan) (cost : ℕ) → cost_from g 0 0 plans ≡ Ok cost → KeepsLater g plans → (fault : PlanFault) → IsBroken g plans fault → ⊥
none_broken g plans cost walks keeps fault broken =
    keeps fault (only_later g plans 0 cost (cost_from-Ok g 0 0 cost plans walks) fault broken) broken
