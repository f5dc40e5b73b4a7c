-- Where the price loop ends at a basis past the caps, its routes and the basis are a wide root.
use Rattle.std.proofs.Common.{◌≡◌, ◌∙◌, ℕ, zero, suc, ◌+◌, ◌<◌, ◌≤◌, List, [], ◌∷◌, ◌++◌, map, length, refl, sym, ap, subst, arith}
use Rattle.std.specs.List.{All}
use Rattle.std.proofs.lemmas.List.{length-append, length-map}
use Rattle.std.proofs.lemmas.List.Elements.{All-head, All-map, All-tail, All-weaker}
use Rattle.ev_model.specs.Network.{Network}
use Rattle.fleet_model.specs.Equations.{Column, column_at, helpers, route}
use Rattle.fleet_model.specs.Wide.{IsTooWide}
use Rattle.fleet_model.proofs.Numbers.{counted}
use Rattle.instance_reader.specs.Instance.{customer_nodes}
use Rattle.certificate_parts.specs.Limits.{most_items}
use Rattle.certificate_parts.specs.Ranges.{customer_count, EntryFits}
use Rattle.certificate_parts.specs.declared.entry.BasisEntry.{BasisEntry}
use Rattle.customer_sets.specs.CustSet.{has}
use Rattle.price_loop.specs.Masters.{IsPastBasis, IsWide}
use Rattle.price_loop.specs.Problems.{column_of}
use Rattle.price_loop.proofs.Alike.{alike_same, IsAlike}
use Rattle.price_loop.proofs.ListedBases.{listed_past, too_wide}
use Rattle.price_loop.proofs.Optimum.{has_of}
use Rattle.mixed_model.specs.Accepted.{IsWideRoot}
use Rattle.mixed_model.specs.Covers.{IsKindRoute}
use Rattle.mixed_model.specs.Kinds.{first_of, network_of}
use Rattle.mixed_model.specs.Meaning.{kind_plan, mixed_basis, mixed_columns}
use Rattle.mixed_model.specs.Ranges.{ColumnsFit, RouteFits}
use Rattle.mixed_model.specs.declared.proof.MixedRoute.{MixedRoute}
use Rattle.bound_certificate.specs.Meaning.{route_column}
use Rattle.bound_certificate.specs.Entries.{entry_of}
use Rattle.bound_certificate.proofs.Entries.{different, entries_are, entry_fits, many_helpers}
use Rattle.mixed_fleet.specs.Fleets.{AreFleetKinds}
use Rattle.mixed_fleet.specs.Problem.{problem_of}
use Rattle.mixed_fleet.specs.Searched.{IsSearched}
use Rattle.mixed_fleet.specs.Shares.{certificate_caps}
use Rattle.mixed_fleet.specs.declared.searched.Searched.{Searched}
use Rattle.mixed_fleet.proofs.Exact.{route_fits}

abbrev plain_route : Searched → MixedRoute
plain_route r = r.route

abbrev pub routes_of : List Searched → List MixedRoute
routes_of routes = map plain_route routes

module _ (kinds : List Network) where
  one_alike : (r : Searched) → IsSearched kinds r → IsAlike (column_of (problem_of kinds) r) (route_column (network_of kinds r.route.kind) r.route.plan)
  one_alike r is = record {
    members = λ c. has_of r.numbers c ∙ ap (λ (ns : List ℕ). has ns c) is.numbers;
    cost = is.time;
    help = refl;
  }

  count_columns : (routes : List Searched) → length (map (column_of (problem_of kinds)) routes) ≡ length (mixed_columns kinds (routes_of routes))
  count_columns [] = refl
  count_columns (r ∷ rs) = ap suc (count_columns rs)

  each_alike : (routes : List Searched) → All (IsSearched kinds) routes → (j : ℕ) → IsAlike (column_at (map (column_of (problem_of kinds)) routes) j) (column_at (mixed_columns kinds (routes_of routes)) j)
  each_alike [] are j = alike_same (route [] 0)
  each_alike (r ∷ rs) are zero = one_alike r (All-head (IsSearched kinds) r rs are)
  each_alike (r ∷ rs) are (suc j) = each_alike rs (All-tail (IsSearched kinds) r rs are) j

module _ (kinds : List Network) (fleet : AreFleetKinds kinds) (routes : List Searched) (basis : List ℕ) (wide : IsWide (problem_of kinds) certificate_caps routes basis) where
  abbrev n : ℕ
  n = length (customer_nodes (first_of kinds))

  abbrev entries : List BasisEntry
  entries = map (entry_of n) basis

  abbrev listed : List Column
  listed = mixed_columns kinds (routes_of routes)

  past : IsPastBasis n certificate_caps (helpers n ++ listed) basis
  past = listed_past n certificate_caps (map (column_of (problem_of kinds)) routes) listed (record { count = count_columns kinds routes; each = each_alike kinds routes wide.routes_are }) basis wide.past

  named : mixed_basis kinds (routes_of routes) entries ≡ map (column_at (helpers n ++ listed)) basis
  named = entries_are n listed basis

  pub wide_root : IsWideRoot kinds (routes_of routes) entries
  wide_root = record {
    routes = All-map (λ (r : MixedRoute). IsKindRoute kinds 1 (kind_plan r)) plain_route routes
        (All-weaker (IsSearched kinds) (λ (r : Searched). IsKindRoute kinds 1 (kind_plan r.route)) (λ r is. is.route) routes wide.routes_are);
    wide = subst (λ (k : ℕ). IsTooWide k listed (mixed_basis kinds (routes_of routes) entries)) (counted (first_of kinds))
        (subst (λ (es : List Column). IsTooWide n listed es) (sym named) (too_wide n listed (map (column_at (helpers n ++ listed)) basis) past.past));
  }

  many : length (helpers n ++ listed) ≡ n + length (routes_of routes)
  many =
      let a = length-append (helpers n) listed in
      let b = many_helpers n in
      let c = count_columns kinds routes in
      let d = length-map routes (column_of (problem_of kinds)) in
      let e = length-map routes plain_route in
      omega (arith, a, b, c, d, e)

  pub columns_fit : length routes ≤ most_items → ColumnsFit (length kinds) (customer_count (first_of kinds)) (routes_of routes) entries
  columns_fit few =
      let m = length (routes_of routes) in
      let inside = All-weaker (λ (j : ℕ). j < length (helpers n ++ listed)) (λ j. EntryFits n m (entry_of n j)) (λ j less. entry_fits n m j (let e = many in omega (arith, less, e))) basis past.placed in
      record {
        few = (let e = length-map routes plain_route in omega (arith, e, few));
        each = All-map (RouteFits (length kinds)) plain_route routes (All-weaker (IsSearched kinds) (λ (r : Searched). RouteFits (length kinds) r.route) (λ r is. route_fits kinds fleet r is) routes wide.routes_are);
        basis_fits = record {
          count = length-map basis (entry_of n) ∙ sym (length-map basis (column_at (helpers n ++ listed))) ∙ past.past.is_basis.count;
          entries = All-map (EntryFits n m) (entry_of n) basis inside;
          different = different n basis past.apart;
        };
      }
