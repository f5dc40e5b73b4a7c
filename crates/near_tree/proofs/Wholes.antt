-- Each fleet plan in kths has a whole one with the same pairs that is no dearer.
use Rattle.std.proofs.Common.{◌≡◌, ◌≢◌, ◌∙◌, ℕ, ◌*◌, ◌≤◌, refl, sym, ap, List, [], ◌∷◌, ◌++◌, map, Bool, arith}
use Rattle.std.specs.List.{All}
use Rattle.std.proofs.lemmas.List.Elements.{All-cons, All-head, All-nil, All-tail}
use Rattle.ev_model.specs.Feasible.{IsFeasible}
use Rattle.ev_model.specs.Fleet.{all_customers, cost_of, customers_of, IsFleetPlan, ServesOnly}
use Rattle.ev_model.specs.Network.{IsNetwork, Network}
use Rattle.ev_model.specs.Route.{route_of}
use Rattle.ev_model.specs.declared.Stop.{Stop}
use Rattle.fleet_model.specs.Pairs.{FleetKeepsPairs, PlanKeepsPairs}
use Rattle.fleet_model.specs.Places.{place_of, places_of}
use Rattle.fleet_model.specs.Whole.{NoFractionIsFaster}
use Rattle.fleet_model.proofs.WholeFleets.{same_customers, whole_only, whole_pairs}
use Rattle.rounding_law.proofs.Whole.{no_fraction_is_faster}
use Rattle.near_tree.specs.Branches.{Branch, Counted, IsInRange, Keeps}
use Rattle.near_tree.specs.Entries.{entries_among}
use Rattle.near_tree.specs.Pairs.{fleet_pairs, next_pairs}

whole_is_no_slower : (g : Network) → IsNetwork g → NoFractionIsFaster g
whole_is_no_slower g network k plan feasible =
    let found = no_fraction_is_faster g (route_of plan) k g.capacity plan network feasible refl in
    record { whole = found.0; feasible = found.1; follows = found.2; no_slower = found.3 }

abbrev SomeCustomer : Network → List Stop → Type 0
SomeCustomer g stops = customers_of g stops ≢ []

-- the whole plans of a fleet
record HasWholeFleet (g : Network) (allows : ℕ → ℕ → Bool) (k : ℕ) (plans : List (List Stop)) : Type 0 where
  whole : List (List Stop)
  feasible : All (IsFeasible g 1 g.capacity) whole
  some : All (SomeCustomer g) whole
  only : All (ServesOnly g) whole
  customers : all_customers g whole ≡ all_customers g plans
  keeps : FleetKeepsPairs g allows whole
  pairs : fleet_pairs g whole ≡ fleet_pairs g plans
  no_dearer : k * cost_of g 1 whole ≤ cost_of g k plans

whole_fleet : (g : Network) (allows : ℕ → ℕ → Bool) (k : ℕ) (plans : List (List Stop)) → NoFractionIsFaster g → All (IsFeasible g k g.capacity) plans → All (SomeCustomer g) plans → All (ServesOnly g) plans
    → FleetKeepsPairs g allows plans → HasWholeFleet g allows k plans
whole_fleet g allows k [] law feasible some only keeps = record {
  whole = [];
  feasible = All-nil (IsFeasible g 1 g.capacity);
  some = All-nil (SomeCustomer g);
  only = All-nil (ServesOnly g);
  customers = refl;
  keeps = All-nil (PlanKeepsPairs g allows);
  pairs = refl;
  no_dearer = omega arith;
}
whole_fleet g allows k (p ∷ ps) law feasible some only keeps =
    let one = law k p (All-head (IsFeasible g k g.capacity) p ps feasible) in
    let rest = whole_fleet g allows k ps law (All-tail (IsFeasible g k g.capacity) p ps feasible) (All-tail (SomeCustomer g) p ps some) (All-tail (ServesOnly g) p ps only) (All-tail (PlanKeepsPairs g allows) p ps keeps) in
    let serves = same_customers g k p one in
    let route : next_pairs (places_of g one.whole) ≡ next_pairs (places_of g p) = ap (λ c. next_pairs (0 ∷ map (place_of g) c ++ 0 ∷ [])) serves in
    record {
      whole = one.whole ∷ rest.whole;
      feasible = All-cons (IsFeasible g 1 g.capacity) one.whole rest.whole one.feasible rest.feasible;
      some = All-cons (SomeCustomer g) one.whole rest.whole (λ none. All-head (SomeCustomer g) p ps some (sym serves ∙ none)) rest.some;
      only = All-cons (ServesOnly g) one.whole rest.whole (whole_only g k p one (All-head (ServesOnly g) p ps only)) rest.only;
      customers = cc (serves, rest.customers);
      keeps = All-cons (PlanKeepsPairs g allows) one.whole rest.whole (whole_pairs g allows k p one (All-head (PlanKeepsPairs g allows) p ps keeps)) rest.keeps;
      pairs = cc (route, rest.pairs);
      no_dearer = omega (arith, one.no_slower, rest.no_dearer);
    }

-- a whole fleet plan that keeps the same branch and is no dearer
pub record IsWholeOf (g : Network) (b : Branch) (k : ℕ) (plans whole : List (List Stop)) : Type 0 where
  pub fleet : IsFleetPlan g 1 whole
  pub keeps : Keeps g b whole
  pub no_dearer : k * cost_of g 1 whole ≤ cost_of g k plans

same_entries : (g : Network) (plans whole : List (List Stop)) → fleet_pairs g whole ≡ fleet_pairs g plans → (cs : List Counted) → All (IsInRange g plans) cs → All (IsInRange g whole) cs
same_entries g plans whole same [] all = All-nil (IsInRange g whole)
same_entries g plans whole same (c ∷ cs) all =
    let here = All-head (IsInRange g plans) c cs all in
    let count : entries_among c.set (fleet_pairs g whole) ≡ entries_among c.set (fleet_pairs g plans) = ap (entries_among c.set) same in
    let first : IsInRange g whole c = record { least = omega (arith, here.least, count); most = omega (arith, here.most, count) } in
    All-cons (IsInRange g whole) c cs first (same_entries g plans whole same cs (All-tail (IsInRange g plans) c cs all))

pub has_whole : (g : Network) (b : Branch) (k : ℕ) (plans : List (List Stop)) → IsNetwork g → IsFleetPlan g k plans → Keeps g b plans → (whole : List (List Stop)) × IsWholeOf g b k plans whole
has_whole g b k plans network fleet keeps =
    let has = whole_fleet g b.allows k plans (whole_is_no_slower g network) fleet.feasible fleet.some fleet.only keeps.pairs in (
      has.whole,
      record {
        fleet = record {
          feasible = has.feasible;
          some = has.some;
          only = has.only;
          once = λ node low is. rw (has.customers) (fleet.once node low is);
        };
        keeps = record { pairs = has.keeps; entries = same_entries g plans has.whole has.pairs b.counted keeps.entries };
        no_dearer = has.no_dearer;
      },
    )
