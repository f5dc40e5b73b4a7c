-- The shares of an optimum are a cover by routes of all kinds that costs the price sum over the weight.
use Rattle.std.proofs.Common.{◌≡◌, ◌∙◌, ℕ, ◌-◌, ◌*◌, ◌<◌, ◌≤◌, ◌^◌, true, List, [], ◌∷◌, get_or, map, length, refl, ap, arith, ℤ, pos}
use Rattle.std.specs.List.{All}
use Rattle.std.proofs.lemmas.List.Elements.{All-cons, All-get_or, All-head, All-nil, All-tail}
use Rattle.ev_model.specs.Network.{is_customer, Network, node_count}
use Rattle.fleet_model.specs.Cover.{shares_of}
use Rattle.fleet_model.specs.Places.{customer_number}
use Rattle.fleet_model.proofs.Counts.{number_less}
use Rattle.fleet_model.proofs.Numbers.{counted}
use Rattle.route_plan.proofs.PlanRanges.{feasible_fits}
use Rattle.instance_reader.specs.Instance.{customer_nodes}
use Rattle.mixed_model.specs.Covers.{IsExactCover, IsKindRoute, KindShare, mixed_cost_of_shares, plain_shares}
use Rattle.mixed_model.specs.Kinds.{first_of, network_of}
use Rattle.mixed_model.specs.Meaning.{kind_plan, kind_shares}
use Rattle.mixed_model.specs.Plans.{time_in}
use Rattle.mixed_model.specs.Ranges.{RouteFits, ShareFits}
use Rattle.mixed_model.specs.declared.proof.MixedShare.{MixedShare}
use Rattle.mixed_model.proofs.Whole.{network_at}
use Rattle.price_loop.specs.Columns.{HasRoute}
use Rattle.price_loop.proofs.Optimum.{AreShares, cost_shared, times_shared}
use Rattle.mixed_fleet.specs.Fleets.{AreFleetKinds}
use Rattle.mixed_fleet.specs.Problem.{problem_of}
use Rattle.mixed_fleet.specs.Searched.{IsSearched}
use Rattle.mixed_fleet.specs.Shares.{certificate_caps, no_route, share_at}
use Rattle.mixed_fleet.specs.declared.searched.Searched.{Searched}
use Rattle.mixed_fleet.proofs.Routes.{times_served}

-- a route that was searched for may stand in a text
pub route_fits : (kinds : List Network) → AreFleetKinds kinds → (r : Searched) → IsSearched kinds r → RouteFits (length kinds) r.route
route_fits kinds fleet r is =
    let g = network_of kinds r.route.kind in
    record {
      kind = is.route.known;
      plan = feasible_fits g g.capacity r.route.plan.stops (network_at kinds fleet.networks r.route.kind is.route.known) is.route.route.feasible;
    }

abbrev Part : ℕ → ℕ × ℕ → Type 0
Part over x = (0 < x.1) × (x.1 ≤ over)

module _ (kinds : List Network) (fleet : AreFleetKinds kinds) (routes : List Searched) (are : All (IsSearched kinds) routes) where
  abbrev n : ℕ
  n = length (customer_nodes (first_of kinds))

  abbrev at : ℕ × ℕ → Searched
  at x = get_or routes (x.0 - n) no_route

  abbrev listed : List (ℕ × ℕ) → List MixedShare
  listed xs = map (share_at n routes) xs

  searched_at : (x : ℕ × ℕ) → HasRoute n routes x → IsSearched kinds (at x)
  searched_at x has = All-get_or (IsSearched kinds) routes (x.0 - n) no_route (omega (arith, has.0, has.1)) are

  times_listed : (xs : List (ℕ × ℕ)) → All (HasRoute n routes) xs → (node : ℕ) → is_customer (first_of kinds) node ≡ true
      → shares_of (first_of kinds) (plain_shares (kind_shares (listed xs))) node ≡ times_shared (problem_of kinds) routes no_route xs (customer_number (first_of kinds) node)
  times_listed [] have node is = refl
  times_listed (x ∷ xs) have node is =
      let here = searched_at x (All-head (HasRoute n routes) x xs have) in
      let rest = times_listed xs (All-tail (HasRoute n routes) x xs have) node is in
      let first = ap (λ k. x.1 * k) (times_served kinds fleet (at x) here node is) in
      omega (arith, first, rest)

  cost_listed : (xs : List (ℕ × ℕ)) → All (HasRoute n routes) xs → mixed_cost_of_shares kinds 1 (kind_shares (listed xs)) ≡ cost_shared (problem_of kinds) routes no_route xs
  cost_listed [] have = refl
  cost_listed (x ∷ xs) have =
      let here = searched_at x (All-head (HasRoute n routes) x xs have) in
      let rest = cost_listed xs (All-tail (HasRoute n routes) x xs have) in
      let first : x.1 * (at x).time ≡ x.1 * time_in kinds 1 (kind_plan (at x).route) = ap (λ k. x.1 * k) here.time in
      omega (arith, first, rest)

  some_parts : (over : ℕ) (xs : List (ℕ × ℕ)) → All (Part over) xs → All (λ (x : KindShare). 1 ≤ x.share) (kind_shares (listed xs))
  some_parts over [] parts = All-nil (λ (x : KindShare). 1 ≤ x.share)
  some_parts over (x ∷ xs) parts =
      let here = All-head (Part over) x xs parts in
      All-cons (λ (y : KindShare). 1 ≤ y.share) (record { share = x.1; plan = kind_plan (at x).route }) (kind_shares (listed xs)) (omega (arith, here.0)) (some_parts over xs (All-tail (Part over) x xs parts))

  routes_listed : (xs : List (ℕ × ℕ)) → All (HasRoute n routes) xs → All (λ (x : KindShare). IsKindRoute kinds 1 x.plan) (kind_shares (listed xs))
  routes_listed [] have = All-nil (λ (x : KindShare). IsKindRoute kinds 1 x.plan)
  routes_listed (x ∷ xs) have =
      let here = searched_at x (All-head (HasRoute n routes) x xs have) in
      All-cons (λ (y : KindShare). IsKindRoute kinds 1 y.plan) (record { share = x.1; plan = kind_plan (at x).route }) (kind_shares (listed xs)) here.route (routes_listed xs (All-tail (HasRoute n routes) x xs have))

  pub shares_fit : (over : ℕ) (xs : List (ℕ × ℕ)) → over ≤ 2 ^ 40 → All (HasRoute n routes) xs → All (Part over) xs → All (ShareFits (length kinds)) (listed xs)
  shares_fit over [] small have parts = All-nil (ShareFits (length kinds))
  shares_fit over (x ∷ xs) small have parts =
      let here = searched_at x (All-head (HasRoute n routes) x xs have) in
      let part = All-head (Part over) x xs parts in
      All-cons (ShareFits (length kinds)) (share_at n routes x) (listed xs)
      (record { share = record { some = omega (arith, part.0); small = omega (arith, part.1, small) }; route = route_fits kinds fleet (at x) here })
      (shares_fit over xs small (All-tail (HasRoute n routes) x xs have) (All-tail (Part over) x xs parts))

  pub exact_cover : (weight over : ℕ) (prices : List ℤ) (xs : List (ℕ × ℕ)) → AreShares (problem_of kinds) routes no_route certificate_caps weight prices over xs → IsExactCover kinds weight prices over (kind_shares (listed xs))
  exact_cover weight over prices xs is = record {
    cover = record {
      some_weight = is.some;
      some_share = some_parts over xs is.parts;
      routes = routes_listed xs is.placed;
      covers = λ node known customer.
          let less = number_less (first_of kinds) node (node_count (first_of kinds)) customer known in
          let c = counted (first_of kinds) in
          times_listed xs is.placed node customer ∙ is.exact (customer_number (first_of kinds) node) (omega (arith, less, c));
    };
    some_weight = is.some_weight;
    cost = ap (λ k. pos (k * weight)) (cost_listed xs is.placed) ∙ is.cost;
  }
