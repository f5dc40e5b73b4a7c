-- A route of any kind, as it is searched for, and its customers in the first kind.
use Rattle.std.proofs.Common.{◌≡◌, ◌∙◌, ℕ, true, List, refl, ap}
use Rattle.ev_model.specs.Fleet.{customers_of, times_in}
use Rattle.ev_model.specs.Network.{is_customer, Network}
use Rattle.ev_model.specs.Route.{route_of}
use Rattle.fleet_model.specs.Places.{customer_number, numbers_of}
use Rattle.fleet_model.proofs.Counts.{count_numbers}
use Rattle.fleet_model.proofs.Fleets.{plan_below}
use Rattle.fleet_model.proofs.Plans.{filtered}
use Rattle.mixed_model.specs.Covers.{IsKindRoute}
use Rattle.mixed_model.specs.Kinds.{first_of, network_of}
use Rattle.mixed_model.specs.Meaning.{kind_plan}
use Rattle.mixed_model.specs.Plans.{KindPlan, time_in}
use Rattle.mixed_model.proofs.AgreeingNetworks.{same_numbers}
use Rattle.mixed_model.proofs.Known.{plan_known}
use Rattle.mixed_fleet.specs.Fleets.{AreFleetKinds}
use Rattle.mixed_fleet.specs.Searched.{IsSearched}
use Rattle.mixed_fleet.specs.declared.searched.Searched.{Searched}
use Rattle.mixed_fleet.proofs.Once.{agrees_at}

abbrev pub as_searched : List Network → KindPlan → Searched
as_searched kinds p = record {
  route = record { kind = p.kind; plan = record { stops = p.stops } };
  numbers = numbers_of (network_of kinds p.kind) p.stops;
  time = time_in kinds 1 p;
}

pub is_searched : (kinds : List Network) (p : KindPlan) → IsKindRoute kinds 1 p → IsSearched kinds (as_searched kinds p)
is_searched kinds p route = record { route = route; numbers = refl; time = refl }

module _ (kinds : List Network) (fleet : AreFleetKinds kinds) where
  pub first_numbers : (p : KindPlan) → IsKindRoute kinds 1 p → numbers_of (network_of kinds p.kind) p.stops ≡ numbers_of (first_of kinds) p.stops
  first_numbers p route =
      let g = network_of kinds p.kind in
      let own = route.route.feasible in
      same_numbers (first_of kinds) g (agrees_at kinds fleet p.kind route.known) p.stops (plan_known g 1 g.capacity p.stops own) (plan_below g 1 g.capacity p.stops own)

  pub searched_numbers : (r : Searched) → IsSearched kinds r → r.numbers ≡ numbers_of (first_of kinds) r.route.plan.stops
  searched_numbers r is = is.numbers ∙ first_numbers (kind_plan r.route) is.route

  -- a route serves the customer at a node as often as it has the customer's number
  pub times_served : (r : Searched) → IsSearched kinds r → (node : ℕ) → is_customer (first_of kinds) node ≡ true → times_in r.numbers (customer_number (first_of kinds) node) ≡ times_in (customers_of (first_of kinds) r.route.plan.stops) node
  times_served r is node customer =
      let g = first_of kinds in
      let stops = r.route.plan.stops in
      ap (λ (ns : List ℕ). times_in ns (customer_number g node)) (searched_numbers r is) ∙ count_numbers g (customers_of g stops) node (filtered g (route_of stops)) customer
