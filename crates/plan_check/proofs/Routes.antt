-- The first route without a customer, and the first with a stray stop.
use Rattle.std.proofs.Common.{◌≡◌, ℕ, zero, suc, ◌+◌, ◌<◌, List, [], ◌∷◌, Option, None, Some, refl, sym, subst, arith, inl, inr}
use Rattle.std.specs.List.{list_any}
use Rattle.std.proofs.lemmas.Bool.{cases_Bool}
use Rattle.std.proofs.lemmas.Option.{same_Some}
use Rattle.ev_model.specs.Fleet.{customers_of}
use Rattle.ev_model.specs.Network.{Network}
use Rattle.route_plan.specs.declared.plan.RoutePlan.{RoutePlan}
use Rattle.plan_check.specs.FirstFaults.{first_empty, first_stray, first_stray_from, serves}
use Rattle.route_plan.specs.FirstPlaces.{behind_first, or_later}
use Rattle.plan_check.specs.FleetRules.{IsRouteAt, IsStray}
use Rattle.plan_check.specs.declared.fault.PlanFault.{PlanFault}
use Rattle.plan_check.specs.declared.fault.PlanFault.TheVariants.{Stray}
use Rattle.plan_check.proofs.Strays.{StraysFirst, first_stray-None, first_stray-Some, serves_none, serves_some}

-- the first of routes, counted from n, at which P holds
pub record IsFirstRoute (P : RoutePlan → Type 0) (plans : List RoutePlan) (n route : ℕ) : Type 0 where
  pub place : ℕ
  pub plan : RoutePlan
  pub is : route ≡ n + place
  pub there : IsRouteAt plans place plan
  pub holds : P plan
  pub first : (i : ℕ) (p : RoutePlan) → i < place → IsRouteAt plans i p → P p → ⊥

module _ (P : RoutePlan → Type 0) (p : RoutePlan) (ps : List RoutePlan) (n route : ℕ) where
  first_here : P p → n ≡ route → IsFirstRoute P (p ∷ ps) n route
  first_here holds same = record {
    place = 0;
    plan = p;
    is = omega (arith, same);
    there = refl;
    holds = holds;
    first = λ i q below at. absurd (omega (arith, below));
  }

  first_later : (P p → ⊥) → IsFirstRoute P ps (n + 1) route → IsFirstRoute P (p ∷ ps) n route
  first_later fails rest = record {
    place = suc rest.place;
    plan = rest.plan;
    is = omega (arith, rest.is);
    there = rest.there;
    holds = rest.holds;
    first = earlier;
  }
    where
      earlier : (i : ℕ) (q : RoutePlan) → i < suc rest.place → IsRouteAt (p ∷ ps) i q → P q → ⊥
      earlier zero q below at holds = fails (subst P (sym (same_Some p q at)) holds)
      earlier (suc i) q below at holds = rest.first i q (omega (arith, below)) at holds

none_later : (P : RoutePlan → Type 0) (p : RoutePlan) (ps : List RoutePlan) → (P p → ⊥) → ((i : ℕ) (q : RoutePlan) → IsRouteAt ps i q → P q → ⊥) →
    (i : ℕ) (q : RoutePlan) → IsRouteAt (p ∷ ps) i q → P q → ⊥
none_later P p ps fails rest zero q at holds = fails (subst P (sym (same_Some p q at)) holds)
none_later P p ps fails rest (suc i) q at holds = rest i q at holds

-- ---- routes without a customer

abbrev pub IsEmpty : Network → RoutePlan → Type 0
IsEmpty g p = customers_of g p.stops ≡ []

pub first_empty-Some : (g : Network) (n route : ℕ) (plans : List RoutePlan) → first_empty g n plans ≡ Some route → IsFirstRoute (IsEmpty g) plans n route
first_empty-Some g n route [] is = absurd (cc)
first_empty-Some g n route (p ∷ ps) is = elim (cases_Bool (list_any (serves g) p.stops)) [
  | inl some ↦ let later : first_empty g (n + 1) ps ≡ Some route = rw some at is in first_later (IsEmpty g) p ps n route (serves_some g p.stops some) (first_empty-Some g (n + 1) route ps later)
  | inr none ↦ let here : Some n ≡ Some route = rw none at is in first_here (IsEmpty g) p ps n route (serves_none g p.stops none) (same_Some n route here)
]

pub first_empty-None : (g : Network) (n : ℕ) (plans : List RoutePlan) → first_empty g n plans ≡ None → (i : ℕ) (p : RoutePlan) → IsRouteAt plans i p → IsEmpty g p → ⊥
first_empty-None g n [] is = λ i p at empty. cc
first_empty-None g n (p ∷ ps) is = elim (cases_Bool (list_any (serves g) p.stops)) [
  | inl some ↦ let later : first_empty g (n + 1) ps ≡ None = rw some at is in none_later (IsEmpty g) p ps (serves_some g p.stops some) (first_empty-None g (n + 1) ps later)
  | inr none ↦ let here : Some n ≡ None = rw none at is in absurd (cc)
]

-- ---- routes with a stray stop

abbrev pub HasStray : Network → RoutePlan → Type 0
HasStray g p = (at : ℕ) × IsStray g p.stops at

-- the first stray stop of routes, counted from n
pub record IsFirstStrayOf (g : Network) (plans : List RoutePlan) (n : ℕ) (fault : PlanFault) : Type 0 where
  pub route : ℕ
  pub at : ℕ
  pub is : fault ≡ Stray route at
  pub first : IsFirstRoute (HasStray g) plans n route
  pub place : StraysFirst g first.plan.stops at

stray_in : (g : Network) (n : ℕ) (fault : PlanFault) (p : RoutePlan) (ps : List RoutePlan) (found : Option ℕ) → first_stray g 1 (behind_first p.stops) ≡ found →
    or_later found (λ at. Stray n at) (first_stray_from g (n + 1) ps) ≡ Some fault →
    (first_stray_from g (n + 1) ps ≡ Some fault → IsFirstStrayOf g ps (n + 1) fault) → IsFirstStrayOf g (p ∷ ps) n fault
unfolding first_here first_later
stray_in g n fault p ps None found is rest =
    let later = rest is in
    record {
      route = later.route;
      at = later.at;
      is = later.is;
      first = first_later (HasStray g) p ps n later.route (λ h. first_stray-None g p.stops found h.0 h.1) later.first;
      place = later.place;
    }
stray_in g n fault p ps (Some at) found is rest =
    let here = first_stray-Some g p.stops at found in
    record {
      route = n;
      at = at;
      is = sym (same_Some (Stray n at) fault is);
      first = first_here (HasStray g) p ps n n (at, here.is) refl;
      place = here;
    }

pub first_stray_from-Some : (g : Network) (n : ℕ) (fault : PlanFault) (plans : List RoutePlan) → first_stray_from g n plans ≡ Some fault → IsFirstStrayOf g plans n fault
first_stray_from-Some g n fault [] is = absurd (cc)
first_stray_from-Some g n fault (p ∷ ps) is = stray_in g n fault p ps (first_stray g 1 (behind_first p.stops)) refl is (first_stray_from-Some g (n + 1) fault ps)

pub or_later-None : (found : Option ℕ) (at : ℕ → PlanFault) (later : Option PlanFault) → or_later found at later ≡ None → (found ≡ None) × (later ≡ None)
or_later-None None at later is = (refl, is)
or_later-None (Some n) at later is = absurd (cc)

pub first_stray_from-None : (g : Network) (n : ℕ) (plans : List RoutePlan) → first_stray_from g n plans ≡ None → (i : ℕ) (p : RoutePlan) → IsRouteAt plans i p → HasStray g p → ⊥
first_stray_from-None g n [] is = λ i p at has. cc
first_stray_from-None g n (p ∷ ps) is =
    let parts = or_later-None (first_stray g 1 (behind_first p.stops)) (λ at. Stray n at) (first_stray_from g (n + 1) ps) is in
    none_later (HasStray g) p ps (λ h. first_stray-None g p.stops parts.0 h.0 h.1) (first_stray_from-None g (n + 1) ps parts.1)
