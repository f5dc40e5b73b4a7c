-- Where no fraction is faster, each fleet plan in kths has a whole one that is no dearer.
use Rattle.std.proofs.Common.{◌≡◌, ◌≢◌, ◌∙◌, ℕ, ◌*◌, ◌≤◌, refl, sym, ap, subst, List, [], ◌∷◌, ◌++◌, map, Bool, arith}
use Rattle.std.specs.List.{All}
use Rattle.std.specs.Prelude.{filter}
use Rattle.std.proofs.Math.Nat.{mul-le-mul_left}
use Rattle.std.proofs.lemmas.List.Elements.{All-head, All-tail, All-nil, All-cons}
use Rattle.ev_model.specs.Feasible.{IsFeasible}
use Rattle.ev_model.specs.Fleet.{all_customers, cost_of, customers_of, IsFleetPlan, ServesOnly}
use Rattle.ev_model.specs.Network.{Network, IsNetwork, is_customer}
use Rattle.ev_model.specs.declared.Stop.{Stop}
use Rattle.fleet_model.specs.Pairs.{FleetKeepsPairs, KeepsPairs, PlanKeepsPairs}
use Rattle.fleet_model.specs.Places.{place_of}
use Rattle.fleet_model.specs.Section.{Section, IsSectionOf, IsAtMostBound, ShowsNoPlan}
use Rattle.fleet_model.specs.ClosedList.{IsClosed}
use Rattle.fleet_model.specs.Whole.{HasWhole, NoFractionIsFaster}
use Rattle.fleet_model.proofs.Fleets.{fleet_bound, fleet_none}

abbrev SomeCustomer : Network → List Stop → Type 0
SomeCustomer g stops = customers_of g stops ≢ []

-- the same for the plans of a fleet
record HasWholeFleet (g : Network) (allows : ℕ → ℕ → Bool) (k : ℕ) (plans : List (List Stop)) : Type 0 where
  whole : List (List Stop)
  feasible : All (IsFeasible g 1 g.capacity) whole
  some : All (SomeCustomer g) whole
  only : All (ServesOnly g) whole
  customers : all_customers g whole ≡ all_customers g plans
  pairs : FleetKeepsPairs g allows whole
  no_dearer : k * cost_of g 1 whole ≤ cost_of g k plans

pub same_customers : (g : Network) (k : ℕ) (plan : List Stop) (has : HasWhole g k plan) → customers_of g has.whole ≡ customers_of g plan
same_customers g k plan has = ap (λ r. filter (is_customer g) r) has.follows

pub whole_only : (g : Network) (k : ℕ) (plan : List Stop) (has : HasWhole g k plan) → ServesOnly g plan → ServesOnly g has.whole
whole_only g k plan has only = has.follows ∙ only ∙ ap (λ c. 0 ∷ c ++ 0 ∷ []) (sym (same_customers g k plan has))

pub whole_pairs : (g : Network) (allows : ℕ → ℕ → Bool) (k : ℕ) (plan : List Stop) (has : HasWhole g k plan) → PlanKeepsPairs g allows plan → PlanKeepsPairs g allows has.whole
whole_pairs g allows k plan has keeps = subst (λ c. KeepsPairs allows (0 ∷ map (place_of g) c ++ 0 ∷ [])) (sym (same_customers g k plan has)) keeps

whole_fleet : (g : Network) (allows : ℕ → ℕ → Bool) (k : ℕ) (plans : List (List Stop)) → NoFractionIsFaster g → All (IsFeasible g k g.capacity) plans → All (SomeCustomer g) plans → All (ServesOnly g) plans
    → FleetKeepsPairs g allows plans → HasWholeFleet g allows k plans
whole_fleet g allows k [] law feasible some only pairs = record {
  whole = [];
  feasible = All-nil (IsFeasible g 1 g.capacity);
  some = All-nil (SomeCustomer g);
  only = All-nil (ServesOnly g);
  customers = refl;
  pairs = All-nil (PlanKeepsPairs g allows);
  no_dearer = omega arith;
}
whole_fleet g allows k (p ∷ ps) law feasible some only pairs =
    let one = law k p (All-head (IsFeasible g k g.capacity) p ps feasible) in
    let rest = whole_fleet g allows k ps law (All-tail (IsFeasible g k g.capacity) p ps feasible) (All-tail (SomeCustomer g) p ps some) (All-tail (ServesOnly g) p ps only) (All-tail (PlanKeepsPairs g allows) p ps pairs) in
    let serves = same_customers g k p one in
    record {
      whole = one.whole ∷ rest.whole;
      feasible = All-cons (IsFeasible g 1 g.capacity) one.whole rest.whole one.feasible rest.feasible;
      some = All-cons (SomeCustomer g) one.whole rest.whole (λ none. All-head (SomeCustomer g) p ps some (sym serves ∙ none)) rest.some;
      only = All-cons (ServesOnly g) one.whole rest.whole (whole_only g k p one (All-head (ServesOnly g) p ps only)) rest.only;
      customers = rw (serves, rest.customers) refl;
      pairs = All-cons (PlanKeepsPairs g allows) one.whole rest.whole (whole_pairs g allows k p one (All-head (PlanKeepsPairs g allows) p ps pairs)) rest.pairs;
      no_dearer = omega (arith, one.no_slower, rest.no_dearer);
    }

is_whole_fleet : (g : Network) (allows : ℕ → ℕ → Bool) (k : ℕ) (plans : List (List Stop)) (fleet : IsFleetPlan g k plans) (has : HasWholeFleet g allows k plans) → IsFleetPlan g 1 has.whole
is_whole_fleet g allows k plans fleet has = record {
  feasible = has.feasible;
  some = has.some;
  only = has.only;
  once = λ node lt is. rw (has.customers) (fleet.once node lt is);
}

pub fraction_bound : (g : Network) (s : Section) (k : ℕ) (plans : List (List Stop)) (bound : ℕ) → IsNetwork g → NoFractionIsFaster g → IsSectionOf g s → IsClosed g s → IsFleetPlan g k plans → FleetKeepsPairs g s.allows plans
    → IsAtMostBound s bound → k * bound ≤ cost_of g k plans
fraction_bound g s k plans bound network law of closed fleet keeps below =
    let has = whole_fleet g s.allows k plans law fleet.feasible fleet.some fleet.only keeps in
    let least = fleet_bound g s has.whole bound network of closed (is_whole_fleet g s.allows k plans fleet has) has.pairs below in
    let scaled : k * bound ≤ k * cost_of g 1 has.whole = mul-le-mul_left k least in
    omega (arith, scaled, has.no_dearer)

pub fraction_none : (g : Network) (s : Section) (k : ℕ) (plans : List (List Stop)) → IsNetwork g → NoFractionIsFaster g → IsSectionOf g s → IsClosed g s → IsFleetPlan g k plans → FleetKeepsPairs g s.allows plans → ShowsNoPlan s → ⊥
fraction_none g s k plans network law of closed fleet keeps shows =
    let has = whole_fleet g s.allows k plans law fleet.feasible fleet.some fleet.only keeps in
    fleet_none g s has.whole network of closed (is_whole_fleet g s.allows k plans fleet has) has.pairs shows
