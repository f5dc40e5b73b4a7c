-- The shares of an optimum are a cover by routes of the node that costs the price sum over the weight.
use Rattle.std.proofs.Common.{◌≡◌, ◌∙◌, ℕ, ◌-◌, ◌*◌, ◌<◌, ◌≤◌, ◌^◌, refl, sym, ap, arith, true, List, [], ◌∷◌, map, length, get_or, pos}
use Rattle.std.specs.List.{All}
use Rattle.std.proofs.lemmas.List.Elements.{All-cons, All-get_or, All-head, All-nil, All-tail, All-weaker}
use Rattle.customer_sets.specs.Pairs.{allows_of, ForbiddenPairs}
use Rattle.ev_model.specs.Fleet.{customers_of, times_in}
use Rattle.ev_model.specs.Network.{is_customer, IsNetwork, Network, node_count}
use Rattle.ev_model.specs.Route.{route_of}
use Rattle.ev_model.specs.Time.{time_of}
use Rattle.fleet_model.specs.Cover.{cost_of_shares as cost_of_routes, CoverKeepsPairs, IsExactRoot, IsFleetRoute, IsFractionalCover, Share as RouteShare, shares_of}
use Rattle.fleet_model.specs.Pairs.{PlanKeepsPairs}
use Rattle.fleet_model.specs.Places.{customer_number, numbers_of}
use Rattle.fleet_model.specs.Section.{Section as PricedSection}
use Rattle.fleet_model.proofs.Counts.{count_numbers, number_less}
use Rattle.fleet_model.proofs.Numbers.{counted}
use Rattle.fleet_model.proofs.Plans.{filtered}
use Rattle.instance_reader.specs.Instance.{customer_nodes}
use Rattle.master_table.specs.Tableau.{Limits}
use Rattle.price_loop.specs.Columns.{HasRoute}
use Rattle.price_loop.proofs.Optimum.{AreShares, cost_shared, times_shared}
use Rattle.bound_certificate.specs.Meaning.{route_shares}
use Rattle.bound_certificate.specs.Ranges.{ShareFits}
use Rattle.bound_certificate.specs.declared.certificate.Share.{Share}
use Rattle.column_pool.specs.Columns.{IsNodeRoute, no_route, share_of}
use Rattle.column_pool.specs.Nodes.{IsTimedRoute, node_problem}
use Rattle.column_pool.specs.declared.route.NodeRoute.{NodeRoute}
use Rattle.column_pool.proofs.Routes.{node_route}
use Rattle.route_plan.proofs.PlanRanges.{feasible_fits}

-- what holds of each that is mapped holds of its origin
module _ {X Y : Type 0} (P : Y → Type 0) (f : X → Y) where
  all_mapped : (xs : List X) → All P (map f xs) → All (λ x. P (f x)) xs
  all_mapped [] all = All-nil (λ x. P (f x))
  all_mapped (x ∷ xs) all = All-cons (λ x. P (f x)) x xs (All-head P (f x) (map f xs) all) (all_mapped xs (All-tail P (f x) (map f xs) all))

-- ---- what holds of a share of a route
pub record IsShareOf (g : Network) (p : ForbiddenPairs) (over : ℕ) (x : RouteShare) : Type 0 where
  pub some : 1 ≤ x.share
  pub few : x.share ≤ over
  pub node_route : IsNodeRoute g p x.plan

share_fits : (g : Network) (p : ForbiddenPairs) (over : ℕ) → IsNetwork g → over ≤ 2 ^ 40 → (x : Share) → IsShareOf g p over (record { share = x.share; plan = x.plan.stops }) → ShareFits x
share_fits g p over network small x is = record {
  share = record { some = is.some; small = omega (arith, is.few, small) };
  plan = feasible_fits g g.capacity x.plan.stops network is.node_route.route.feasible;
}

pub shares_fit : (g : Network) (p : ForbiddenPairs) (over : ℕ) (shares : List Share) → IsNetwork g → over ≤ 2 ^ 40 → All (IsShareOf g p over) (route_shares shares) → All ShareFits shares
shares_fit g p over shares network small all =
    let each = all_mapped (IsShareOf g p over) (λ (x : Share). let r : RouteShare = record { share = x.share; plan = x.plan.stops } in r) shares all in
    All-weaker (λ (x : Share). IsShareOf g p over (record { share = x.share; plan = x.plan.stops })) ShareFits (share_fits g p over network small) shares each

pub keep_pairs : (g : Network) (p : ForbiddenPairs) (over : ℕ) (xs : List RouteShare) → All (IsShareOf g p over) xs → CoverKeepsPairs g (allows_of p) xs
keep_pairs g p over xs all = All-weaker (IsShareOf g p over) (λ x. PlanKeepsPairs g (allows_of p) x.plan) (λ x s. s.node_route.keeps) xs all

abbrev Part : ℕ → ℕ × ℕ → Type 0
Part over x = (0 < x.1) × (x.1 ≤ over)

-- ---- shares of columns as shares of routes
module _ (g : Network) (p : ForbiddenPairs) (routes : List NodeRoute) (are : All (IsTimedRoute g p) routes) where
  abbrev n : ℕ
  n = length (customer_nodes g)

  abbrev at : ℕ × ℕ → NodeRoute
  at x = get_or routes (x.0 - n) no_route

  abbrev listed : List (ℕ × ℕ) → List RouteShare
  listed xs = map (share_of n routes) xs

  timed_at : (x : ℕ × ℕ) → HasRoute n routes x → IsTimedRoute g p (at x)
  timed_at x has = All-get_or (IsTimedRoute g p) routes (x.0 - n) no_route (omega (arith, has.0, has.1)) are

  times_listed : (xs : List (ℕ × ℕ)) (node : ℕ) → is_customer g node ≡ true → shares_of g (listed xs) node ≡ times_shared (node_problem g p) routes no_route xs (customer_number g node)
  times_listed [] node is = refl
  times_listed (x ∷ xs) node is =
      let stops = (at x).plan.stops in
      let count : times_in (numbers_of g stops) (customer_number g node) ≡ times_in (customers_of g stops) node = count_numbers g (customers_of g stops) node (filtered g (route_of stops)) is in
      let first : x.1 * times_in (customers_of g stops) node ≡ x.1 * times_in (numbers_of g stops) (customer_number g node) = ap (λ k. x.1 * k) (sym count) in
      let rest = times_listed xs node is in
      omega (arith, first, rest)

  cost_listed : (xs : List (ℕ × ℕ)) → All (HasRoute n routes) xs → cost_of_routes g 1 (listed xs) ≡ cost_shared (node_problem g p) routes no_route xs
  cost_listed [] have = refl
  cost_listed (x ∷ xs) have =
      let here = timed_at x (All-head (HasRoute n routes) x xs have) in
      let rest = cost_listed xs (All-tail (HasRoute n routes) x xs have) in
      let first : x.1 * time_of g 1 g.capacity (at x).plan.stops ≡ x.1 * (at x).time = ap (λ k. x.1 * k) (sym here.time) in
      omega (arith, first, rest)

  share_is : (over : ℕ) (x : ℕ × ℕ) → HasRoute n routes x → Part over x → IsShareOf g p over (share_of n routes x)
  share_is over x has part = record {
    some = omega (arith, part.0);
    few = part.1;
    node_route = node_route g p (at x) (timed_at x has);
  }

  pub are_shares : (over : ℕ) (xs : List (ℕ × ℕ)) → All (HasRoute n routes) xs → All (Part over) xs → All (IsShareOf g p over) (listed xs)
  are_shares over [] have parts = All-nil (IsShareOf g p over)
  are_shares over (x ∷ xs) have parts =
      let here = share_is over x (All-head (HasRoute n routes) x xs have) (All-head (Part over) x xs parts) in
      let rest = are_shares over xs (All-tail (HasRoute n routes) x xs have) (All-tail (Part over) x xs parts) in
      All-cons (IsShareOf g p over) (share_of n routes x) (listed xs) here rest

  module _ (caps : Limits) (s : PricedSection) (over : ℕ) (xs : List (ℕ × ℕ)) (is : AreShares (node_problem g p) routes no_route caps s.weight s.prices over xs) where
    covers : IsFractionalCover g 1 over (listed xs)
    covers =
        let all = are_shares over xs is.placed is.parts in
        record {
          some_weight = is.some;
          some_share = All-weaker (IsShareOf g p over) (λ x. 1 ≤ x.share) (λ x s. s.some) (listed xs) all;
          routes = All-weaker (IsShareOf g p over) (λ x. IsFleetRoute g 1 x.plan) (λ x s. s.node_route.route) (listed xs) all;
          covers = λ node known customer.
              let less = number_less g node (node_count g) customer known in
              let c = counted g in
              times_listed xs node customer ∙ is.exact (customer_number g node) (omega (arith, less, c));
        }

    pub exact_root : IsExactRoot g s over (listed xs)
    exact_root = record {
      cover = covers;
      some_weight = is.some_weight;
      cost = ap (λ k. pos (k * s.weight)) (cost_listed xs is.placed) ∙ is.cost;
    }
