-- Routes of kinds, from what is told of them as listed routes.
use Rattle.std.proofs.Common.{◌≡◌, ◌∙◌, ℕ, ◌*◌, ◌<◌, ◌≤◌, true, List, [], ◌∷◌, Option, Some, None, length, refl, sym, ap, subst, arith}
use Rattle.std.specs.List.{AllZip}
use Rattle.std.specs.Prelude.{if◌then◌else◌, IfNone, IfSome, slice_index_or}
use Rattle.std.proofs.lemmas.List.{get_or_read}
use Rattle.std.proofs.lemmas.List.Elements.{All-get_or}
use Rattle.customer_sets.specs.CustSet.{has}
use Rattle.ev_model.specs.Fleet.{customers_of, times_in}
use Rattle.ev_model.specs.Network.{is_customer, Network, node_count}
use Rattle.ev_model.specs.Time.{time_of}
use Rattle.ev_model.specs.declared.Stop.{Stop}
use Rattle.fleet_model.specs.Cover.{IsFleetRoute, shares_of}
use Rattle.fleet_model.specs.Places.{customer_count, customer_number}
use Rattle.fleet_model.proofs.Numbers.{counted}
use Rattle.instance_reader.specs.Instance.{customer_nodes, most_customers}
use Rattle.master_table.specs.declared.listed.ListedRoute.{ListedRoute}
use Rattle.certificate_check.specs.Columns.{StandFor}
use Rattle.certificate_check.specs.Routes.{IsListedRoute, IsRouteAmong}
use Rattle.certificate_check.specs.Shares.{listed_cost, shares_at}
use Rattle.certificate_check.specs.declared.cover.SharedRoute.{SharedRoute}
use Rattle.certificate_check.proofs.Even.{one_share}
use Rattle.certificate_check.proofs.FleetRoutes.{serves_once}
use Rattle.plan_check.proofs.Feasible.{plan_known}
use Rattle.mixed_model.specs.Covers.{IsKindRoute, mixed_cost_of_shares, plain_shares}
use Rattle.mixed_model.specs.Kinds.{Agrees, AreKinds, first_of, network_of, no_network}
use Rattle.mixed_model.specs.Meaning.{kind_plan, kind_shares, mixed_columns}
use Rattle.mixed_model.specs.declared.proof.MixedRoute.{MixedRoute}
use Rattle.mixed_model.specs.declared.proof.MixedShare.{MixedShare}
use Rattle.mixed_model.proofs.AgreeingNetworks.{same_customer, same_customers, same_number}
use Rattle.mixed_model.specs.Tellings.{IsListedIn, IsSharedIn}

-- the network of a kind is that of the instance at its place
pub kind_is : (kinds : List Network) (kind : ℕ) (g : Network) → kind < length kinds → g ≡ slice_index_or kinds kind g → network_of kinds kind ≡ g
kind_is kinds kind g known is = sym (get_or_read kinds kind g known is no_network)

-- the customers of the instance of the first kind
module _ (kinds : List Network) (are : AreKinds kinds) (g : Network) (is : g ≡ slice_index_or kinds 0 g) (nodes : List ℕ) (value : nodes ≡ customer_nodes g) where
  first_is : first_of kinds ≡ g
  first_is = let some = are.some in kind_is kinds 0 g (omega (arith, some)) is

  pub few_first : length nodes ≡ length (customer_nodes (first_of kinds))
  few_first = ap (λ (l : List ℕ). length l) value ∙ ap (λ (h : Network). length (customer_nodes h)) (sym first_is)

  pub counted_first : length nodes ≡ customer_count (first_of kinds)
  counted_first = few_first ∙ counted (first_of kinds)

module _ (kinds : List Network) (are : AreKinds kinds) where
  pub agrees_at : (kind : ℕ) → kind < length kinds → Agrees (first_of kinds) (network_of kinds kind)
  agrees_at kind known = All-get_or (Agrees (first_of kinds)) kinds kind no_network known are.agree

  pub few_at : (kind : ℕ) → kind < length kinds → length (customer_nodes (first_of kinds)) ≤ most_customers → length (customer_nodes (network_of kinds kind)) ≤ most_customers
  few_at kind known few = subst (λ (nodes : List ℕ). length nodes ≤ 128) (sym (agrees_at kind known).customers) few

  pub count_at : (kind : ℕ) → kind < length kinds → customer_count (network_of kinds kind) ≡ customer_count (first_of kinds)
  count_at kind known =
      let agrees = agrees_at kind known in
      let le : node_count (network_of kinds kind) ≤ node_count (network_of kinds kind) = omega arith in
      same_number (first_of kinds) (network_of kinds kind) agrees (node_count (network_of kinds kind)) le ∙ ap (customer_number (first_of kinds)) agrees.nodes

  -- a listed route of a kind serves a customer once or not at all, as the first kind counts
  times_are : (r : MixedRoute) (listed : ListedRoute) → IsListedIn kinds r listed → (node : ℕ) → node < node_count (first_of kinds) → is_customer (first_of kinds) node ≡ true →
      times_in (customers_of (first_of kinds) r.plan.stops) node ≡ (if has listed.set (customer_number (first_of kinds) node) then 1 else 0)
  times_are r listed is node known customer =
      let first = first_of kinds in
      let g = network_of kinds r.kind in
      let agrees = agrees_at r.kind is.known in
      let within : node < node_count g = omega (arith, known, agrees.nodes) in
      let theirs : is_customer g node ≡ true = same_customer first g agrees node within ∙ customer in
      let once = serves_once g r.plan.stops is.route.route node theirs listed.set is.route.set in
      let number : customer_number g node ≡ customer_number first node = same_number first g agrees node (omega (arith, within)) in
      ap (λ (cs : List ℕ). times_in cs node) (sym (same_customers first g agrees r.plan.stops (plan_known g r.plan.stops is.route.route.feasible)))
      ∙ once ∙ ap (λ (c : ℕ). if has listed.set c then 1 else 0) number

  pub shares_are : (node : ℕ) → node < node_count (first_of kinds) → is_customer (first_of kinds) node ≡ true → (xs : List MixedShare) (ys : List SharedRoute) → AllZip (IsSharedIn kinds) xs ys →
      shares_of (first_of kinds) (plain_shares (kind_shares xs)) node ≡ shares_at (customer_number (first_of kinds) node) ys
  shares_are node known is [] [] zip = refl
  shares_are node known is [] (y ∷ ys) zip = absurd zip
  shares_are node known is (x ∷ xs) [] zip = absurd zip
  shares_are node known is (x ∷ xs) (y ∷ ys) zip =
      let times = times_are x.route y.route zip.0.listed node known is in
      let one = one_share x.share (times_in (customers_of (first_of kinds) x.route.plan.stops) node) (customer_number (first_of kinds) node) y zip.0.share times in
      let rest = shares_are node known is xs ys zip.1 in
      omega (arith, one, rest)

module _ (kinds : List Network) where
  pub costs_are : (xs : List MixedShare) (ys : List SharedRoute) → AllZip (IsSharedIn kinds) xs ys → mixed_cost_of_shares kinds 1 (kind_shares xs) ≡ listed_cost ys
  costs_are [] [] zip = refl
  costs_are [] (y ∷ ys) zip = absurd zip
  costs_are (x ∷ xs) [] zip = absurd zip
  costs_are (x ∷ xs) (y ∷ ys) zip =
      let g = network_of kinds x.route.kind in
      let one : x.share * time_of g 1 g.capacity x.route.plan.stops ≡ y.share * y.route.time =
      ap (λ (t : ℕ). x.share * t) (sym zip.0.listed.route.time) ∙ ap (λ (n : ℕ). n * y.route.time) (sym zip.0.share) in
      let rest = costs_are xs ys zip.1 in
      omega (arith, one, rest)

  pub route_in : (r : MixedRoute) (listed : ListedRoute) → IsListedIn kinds r listed → IsKindRoute kinds 1 (kind_plan r)
  route_in r listed is = record { known = is.known; route = is.route.route }

  pub stand_for : (columns : List MixedRoute) (routes : List ListedRoute) → AllZip (IsListedIn kinds) columns routes → StandFor (mixed_columns kinds columns) routes
  stand_for [] [] zip = tt
  stand_for [] (r ∷ routes) zip = absurd zip
  stand_for (c ∷ columns) [] zip = absurd zip
  stand_for (c ∷ columns) (r ∷ routes) zip = (record { serve = zip.0.route.set; cost = zip.0.route.time; help = refl }, stand_for columns routes zip.1)

  -- what the test of a route tells of a route of a kind
  module _ (g : Network) (r : MixedRoute) (stops : List Stop) (same : network_of kinds r.kind ≡ g) where
    abbrev IsNone : List Stop → Type 0
    IsNone ss = IsFleetRoute g 1 ss → ⊥

    pub none_told : stops ≡ r.plan.stops → (o : Option ListedRoute) → IfNone o (IsNone stops) → IfNone o (IsKindRoute kinds 1 (kind_plan r) → ⊥)
    none_told stops_are None none = λ is. subst IsNone stops_are none (subst (λ (h : Network). IsFleetRoute h 1 r.plan.stops) same is.route)
    none_told stops_are (Some listed) none = tt

  pub some_told : AreKinds kinds → (g : Network) (r : MixedRoute) (stops : List Stop) → network_of kinds r.kind ≡ g → r.kind < length kinds → stops ≡ r.plan.stops → (o : Option ListedRoute) →
      IfSome o (IsListedRoute g stops) → IfSome o (IsRouteAmong (customer_count g)) → IfSome o (IsListedIn kinds r)
  some_told are g r stops same known stops_are None listed among = tt
  some_told are g r stops same known stops_are (Some found) listed among = record {
    known = known;
    route = subst (λ (h : Network). IsListedRoute h r.plan.stops found) (sym same) (subst (λ (ss : List Stop). IsListedRoute g ss found) stops_are listed);
    among = subst (λ (n : ℕ). IsRouteAmong n found) (ap (λ (h : Network). customer_count h) (sym same) ∙ count_at kinds are r.kind known) among;
  }
