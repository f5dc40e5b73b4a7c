-- The chains of all customers are a fleet plan, which bounds the node.
use Rattle.std.proofs.Common.{◌≡◌, ◌≢◌, ◌∙◌, ℕ, ◌*◌, ◌<◌, ◌≤◌, true, refl, sym, ap, subst, arith, List, [], ◌∷◌, ◌++◌, get_or, length, map, inl, inr, ℤ, pos, ◌≤ℤ◌, ◌<ℤ◌}
use Rattle.std.specs.List.{All}
use Rattle.std.proofs.lemmas.Int.{ints}
use Rattle.std.proofs.lemmas.List.Elements.{All-head, All-map, All-tail, All-weaker}
use Rattle.customer_sets.specs.Pairs.{allows_of, ForbiddenPairs, IsDecided}
use Rattle.ev_model.specs.Feasible.{IsFeasible}
use Rattle.ev_model.specs.Fleet.{all_customers, cost_of, customers_of, IsFleetPlan, ServesOnly, times_in}
use Rattle.ev_model.specs.Network.{is_customer, IsNetwork, Network, node_count}
use Rattle.ev_model.specs.Route.{FollowsRoute, route_of}
use Rattle.ev_model.specs.Time.{time_of}
use Rattle.ev_model.specs.declared.Stop.{Stop}
use Rattle.fleet_model.specs.Cover.{cost_of_shares, IsFleetRoute, IsFractionalCover, Share as RouteShare, shares_of}
use Rattle.fleet_model.specs.Pairs.{PlanKeepsPairs}
use Rattle.fleet_model.specs.Places.{customer_number, numbers_of}
use Rattle.fleet_model.specs.Prices.{price_sum, price_total}
use Rattle.fleet_model.proofs.Counts.{AreCustomers, number_less, times_append}
use Rattle.fleet_model.proofs.Fleets.{plan_below}
use Rattle.fleet_model.proofs.Numbers.{counted}
use Rattle.fleet_model.proofs.Plans.{filtered}
use Rattle.fleet_model.proofs.Weighed.{AreBelow}
use Rattle.instance_reader.specs.Instance.{customer_nodes}
use Rattle.pricing.specs.Better.{IsBetter}
use Rattle.bound_certificate.specs.Limits.{most_items}
use Rattle.bound_certificate.specs.Meaning.{route_shares}
use Rattle.bound_certificate.specs.declared.certificate.Section.{Section}
use Rattle.bound_certificate.specs.declared.certificate.Share.{Share}
use Rattle.column_pool.specs.Bounds.{IsExact, IsNodeSection, IsPlanAtBound, plans_of}
use Rattle.column_pool.specs.Chains.{AreChains, IsChain}
use Rattle.column_pool.specs.Columns.{IsNodeRoute}
use Rattle.route_plan.proofs.PlanRanges.{feasible_fits}
use Rattle.column_pool.proofs.OneOrder.{one_order}
use Rattle.column_pool.proofs.OneWay.{Stands}
use Rattle.column_pool.proofs.ServedTests.{served_at}

-- ---- some customer is served
first_stands : (xs : List ℕ) → xs ≢ [] → (x : ℕ) × Stands x xs
first_stands [] some = absurd (some refl)
first_stands (x ∷ xs) some = (x, inl refl)

stands_known : (g : Network) (x : ℕ) (xs : List ℕ) → AreCustomers g xs → AreBelow (node_count g) xs → Stands x xs → (is_customer g x ≡ true) × (x < node_count g)
stands_known g x [] are below stands = absurd stands
stands_known g x (y ∷ ys) are below (inl same) = (ap (is_customer g) same ∙ are.0, subst (λ k. k < node_count g) (sym same) below.0)
stands_known g x (y ∷ ys) are below (inr later) = stands_known g x ys are.1 below.1 later

-- ---- shares of 1
shares_times : (g : Network) (node : ℕ) (shares : List Share) → All (λ (x : Share). x.share ≡ 1) shares → shares_of g (route_shares shares) node ≡ times_in (all_customers g (plans_of shares)) node
shares_times g node [] whole = refl
shares_times g node (x ∷ shares) whole =
    let rest = shares_times g node shares (All-tail (λ (x : Share). x.share ≡ 1) x shares whole) in
    let one : x.share ≡ 1 = All-head (λ (x : Share). x.share ≡ 1) x shares whole in
    let both = times_append (customers_of g x.plan.stops) (all_customers g (plans_of shares)) node in
    rw one (omega (arith, rest, both))

shares_cost : (g : Network) (shares : List Share) → All (λ (x : Share). x.share ≡ 1) shares → cost_of_shares g 1 (route_shares shares) ≡ cost_of g 1 (plans_of shares)
shares_cost g [] whole = refl
shares_cost g (x ∷ shares) whole =
    let rest = shares_cost g shares (All-tail (λ (x : Share). x.share ≡ 1) x shares whole) in
    let one : x.share ≡ 1 = All-head (λ (x : Share). x.share ≡ 1) x shares whole in
    rw one (omega (arith, rest))

module _ (g : Network) (p : ForbiddenPairs) (shares : List Share) (prices : List ℤ) (all : AreChains g p (length (customer_nodes g)) shares prices) where
  served_all : (node : ℕ) → node < node_count g → is_customer g node ≡ true → 1 ≤ times_in (all_customers g (plans_of shares)) node
  served_all node known is =
      let less = number_less g node (node_count g) is known in
      let c = counted g in
      all.served node known is (omega (arith, less, c))

  once_all : (node : ℕ) → node < node_count g → is_customer g node ≡ true → times_in (all_customers g (plans_of shares)) node ≡ 1
  once_all node known is =
      let some = served_all node known is in
      let few = all.once node is in
      omega (arith, some, few)

  -- ---- no route earns
  pub none_earns : IsDecided p → p.customers ≡ length (customer_nodes g) → (stops : List Stop) (order : List ℕ) → IsBetter (record { network = g; pairs = p; weight = 1; prices = prices; labels = [] }) stops order → ⊥
  none_earns decided count stops order better =
      let first = first_stands (customers_of g stops) better.route.some in
      let known = stands_known g first.0 (customers_of g stops) (filtered g (route_of stops)) (plan_below g 1 g.capacity stops better.route.feasible) first.1 in
      let none : Share = record { share = 1; plan = record { stops = [] } } in
      let at = served_at g first.0 none shares (served_all first.0 known.1 known.0) in
      let chain : IsChain g p (get_or shares at.place none).plan.stops = all.chains at.place none at.within in
      let theirs = (get_or shares at.place none).plan.stops in
      let is_route : IsNodeRoute g p stops = record { route = better.route; keeps = better.keeps } in
      let same = one_order g p decided count first.0 theirs stops chain.route is_route at.stands first.1 in
      let paid : price_sum prices (numbers_of g theirs) ≤ℤ pos (time_of g 1 g.capacity theirs) = all.pays at.place none at.within in
      let follows : FollowsRoute (0 ∷ customers_of g theirs ++ 0 ∷ []) stops = subst (λ ns. FollowsRoute (0 ∷ ns ++ 0 ∷ []) stops) (sym same) better.route.only in
      let faster = chain.fastest.fastest 1 stops better.route.feasible follows in
      let orders : customers_of g theirs ≡ order = same ∙ better.serves in
      let earns : pos (1 * time_of g 1 g.capacity stops) <ℤ price_sum prices (numbers_of g theirs) = subst (λ ns. pos (1 * time_of g 1 g.capacity stops) <ℤ price_sum prices (map (customer_number g) ns)) (sym orders) better.earns in
      let slower : time_of g 1 g.capacity theirs ≤ 1 * time_of g 1 g.capacity stops = omega (arith, faster) in
      omega (arith, ints, paid, earns, slower)

  -- ---- the fleet plan
  abbrev stops_of : Share → List Stop
  stops_of x = x.plan.stops

  abbrev is_chain : Share → Type 0
  is_chain x = IsChain g p x.plan.stops

  each : (P : List Stop → Type 0) → ((stops : List Stop) → IsChain g p stops → P stops) → All (λ (x : Share). P x.plan.stops) shares
  each P from = All-weaker is_chain (λ (x : Share). P x.plan.stops) (λ x is. from x.plan.stops is) shares all.chains

  of_plans : (P : List Stop → Type 0) → ((stops : List Stop) → IsChain g p stops → P stops) → All P (plans_of shares)
  of_plans P from = All-map P stops_of shares (each P from)

  fleet : IsFleetPlan g 1 (plans_of shares)
  fleet = record {
    feasible = of_plans (IsFeasible g 1 g.capacity) (λ stops is. is.route.route.feasible);
    some = of_plans (λ stops. customers_of g stops ≢ []) (λ stops is. is.route.route.some);
    only = of_plans (ServesOnly g) (λ stops is. is.route.route.only);
    once = once_all;
  }

  pub has_plan : (s : Section) → s.weight ≡ 1 → s.prices ≡ prices → IsPlanAtBound g p s (plans_of shares)
  has_plan s weight same = record {
    fleet = fleet;
    keeps = of_plans (PlanKeepsPairs g (allows_of p)) (λ stops is. is.route.keeps);
    cost =
        let cost : 1 * cost_of g 1 (plans_of shares) ≡ cost_of g 1 (plans_of shares) = omega arith in
        ap price_total same ∙ all.sum ∙ ap pos (sym cost) ∙ ap (λ w. pos (w * cost_of g 1 (plans_of shares))) (sym weight);
  }

  -- ---- the cover
  abbrev route_of_share : Share → RouteShare
  route_of_share x = record { share = x.share; plan = x.plan.stops }

  cover : IsFractionalCover g 1 1 (route_shares shares)
  cover = record {
    some_weight = omega arith;
    some_share = All-map (λ (x : RouteShare). 1 ≤ x.share) route_of_share shares (All-weaker (λ (x : Share). x.share ≡ 1) (λ (x : Share). 1 ≤ x.share) (λ x one. omega (arith, one)) shares all.whole);
    routes = All-map (λ (x : RouteShare). IsFleetRoute g 1 x.plan) route_of_share shares (each (IsFleetRoute g 1) (λ stops is. is.route.route));
    covers = λ node known is. shares_times g node shares all.whole ∙ once_all node known is;
  }

  pub exact : IsNetwork g → (s : Section) → IsNodeSection g p s → s.weight ≡ 1 → s.prices ≡ prices → length shares ≤ most_items → IsExact g p s 1 shares
  exact network s section weight same few = record {
    section = section;
    exact = record {
      cover = cover;
      some_weight = omega (arith, weight);
      cost =
          let cost : cost_of_shares g 1 (route_shares shares) * s.weight ≡ cost_of g 1 (plans_of shares) = ap (λ w. cost_of_shares g 1 (route_shares shares) * w) weight ∙ (let c = shares_cost g shares all.whole in omega (arith, c)) in
          ap pos cost ∙ sym all.sum ∙ ap price_total (sym same) ∙ omega (arith, ints);
    };
    keeps = All-map (λ (x : RouteShare). PlanKeepsPairs g (allows_of p) x.plan) route_of_share shares (each (PlanKeepsPairs g (allows_of p)) (λ stops is. is.route.keeps));
    fits = record {
      over_weight = record { some = omega arith; small = omega arith };
      few = few;
      each = λ i d less.
          let one : (get_or shares i d).share ≡ 1 = all.whole i d less in
          let is : IsChain g p (get_or shares i d).plan.stops = all.chains i d less in
          record {
            share = record { some = omega (arith, one); small = omega (arith, one) };
            plan = feasible_fits g g.capacity (get_or shares i d).plan.stops network is.route.route.feasible;
          };
    };
  }
