-- A route for each customer alone, of any kinds: these are a plan of the fleet, and none of such plans costs less than the fastest.
use Rattle.std.proofs.Common.{◌≡◌, ◌≢◌, ◌∙◌, ℕ, zero, suc, ◌*◌, ◌<◌, ◌≤◌, true, List, [], ◌∷◌, ◌++◌, Some, None, filter, length, get_or, map, refl, sym, ap, subst, arith}
use Rattle.std.specs.List.{All, range_with_len}
use Rattle.std.specs.List.Sorted.{IsStrictlyIncreasing}
use Rattle.std.proofs.lemmas.List.Elements.{All-cons, All-nil}
use Rattle.ev_model.specs.Fleet.{all_customers, customers_of, ServesOnly, times_in}
use Rattle.ev_model.specs.Network.{is_customer, Network, node_count}
use Rattle.ev_model.specs.Route.{FollowsRoute, route_of}
use Rattle.ev_model.specs.declared.Stop.{Stop}
use Rattle.fleet_model.proofs.Counts.{AreCustomers}
use Rattle.fleet_model.proofs.Plans.{filtered}
use Rattle.instance_reader.specs.Instance.{customer_nodes}
use Rattle.plan_check.proofs.CustomersOnce.{customer_once}
use Rattle.mixed_model.specs.Kinds.{first_of}
use Rattle.mixed_model.specs.Meaning.{kind_plan, kind_plans}
use Rattle.mixed_model.specs.Plans.{IsFeasibleIn, IsMixedPlan, KindPlan, mixed_cost, plain_plans, time_in}
use Rattle.mixed_model.specs.MixedTexts.{FitsRoute}
use Rattle.mixed_fleet.specs.Fleets.{AreFleetKinds}
use Rattle.mixed_fleet.specs.Own.{AreLeastOwn, AreOwn, IsOwn, LacksOwn, own_way}
use Rattle.mixed_fleet.specs.Plans.{cost_of_routes, CostsNoMoreThanOwn, first_customer, IsHeld}
use Rattle.mixed_fleet.specs.declared.searched.Searched.{Searched}
use Rattle.mixed_fleet.proofs.Exact.{route_fits}
use Rattle.mixed_fleet.proofs.Wides.{routes_of}

-- ---- own routes are a plan of the fleet

own_customers : (g : Network) (node : ℕ) (stops : List Stop) → is_customer g node ≡ true → FollowsRoute (own_way node) stops → customers_of g stops ≡ node ∷ []
own_customers g node stops is follows =
    let alone : filter (is_customer g) (own_way node) ≡ node ∷ [] = rw is refl in
    ap (filter (is_customer g)) follows ∙ alone

module _ (kinds : List Network) (k : ℕ) where
  abbrev g : Network
  g = first_of kinds

  abbrev HasSome : KindPlan → Type 0
  HasSome p = customers_of g p.stops ≢ []

  abbrev IsOnly : KindPlan → Type 0
  IsOnly p = ServesOnly g p.stops

  own_known : (nodes : List ℕ) (ps : List KindPlan) → AreOwn kinds k nodes ps → All (λ (p : KindPlan). p.kind < length kinds) ps
  own_known [] [] are = All-nil (λ (p : KindPlan). p.kind < length kinds)
  own_known [] (p ∷ ps) are = absurd are
  own_known (n ∷ nodes) [] are = absurd are
  own_known (n ∷ nodes) (p ∷ ps) are = All-cons (λ (q : KindPlan). q.kind < length kinds) p ps are.0.known (own_known nodes ps are.1)

  own_feasible : (nodes : List ℕ) (ps : List KindPlan) → AreOwn kinds k nodes ps → All (IsFeasibleIn kinds k) ps
  own_feasible [] [] are = All-nil (IsFeasibleIn kinds k)
  own_feasible [] (p ∷ ps) are = absurd are
  own_feasible (n ∷ nodes) [] are = absurd are
  own_feasible (n ∷ nodes) (p ∷ ps) are = All-cons (IsFeasibleIn kinds k) p ps are.0.feasible (own_feasible nodes ps are.1)

  own_some : (nodes : List ℕ) (ps : List KindPlan) → AreCustomers g nodes → AreOwn kinds k nodes ps → All HasSome ps
  own_some [] [] customers are = All-nil HasSome
  own_some [] (p ∷ ps) customers are = absurd are
  own_some (n ∷ nodes) [] customers are = absurd are
  own_some (n ∷ nodes) (p ∷ ps) customers are =
      let one = own_customers g n p.stops customers.0 are.0.follows in
      let here : HasSome p = λ none. let never : n ∷ [] ≡ [] = sym one ∙ none in cc in
      All-cons HasSome p ps here (own_some nodes ps customers.1 are.1)

  own_only : (nodes : List ℕ) (ps : List KindPlan) → AreCustomers g nodes → AreOwn kinds k nodes ps → All IsOnly ps
  own_only [] [] customers are = All-nil IsOnly
  own_only [] (p ∷ ps) customers are = absurd are
  own_only (n ∷ nodes) [] customers are = absurd are
  own_only (n ∷ nodes) (p ∷ ps) customers are =
      let one = own_customers g n p.stops customers.0 are.0.follows in
      let here : route_of p.stops ≡ 0 ∷ (customers_of g p.stops ++ 0 ∷ []) = are.0.follows ∙ ap (λ nodes. 0 ∷ (nodes ++ 0 ∷ [])) (sym one) in
      All-cons IsOnly p ps here (own_only nodes ps customers.1 are.1)

  own_all : (nodes : List ℕ) (ps : List KindPlan) → AreCustomers g nodes → AreOwn kinds k nodes ps → all_customers g (plain_plans ps) ≡ nodes
  own_all [] [] customers are = refl
  own_all [] (p ∷ ps) customers are = absurd are
  own_all (n ∷ nodes) [] customers are = absurd are
  own_all (n ∷ nodes) (p ∷ ps) customers are =
      ap (λ first. first ++ all_customers g (plain_plans ps)) (own_customers g n p.stops customers.0 are.0.follows) ∙ ap (λ rest. n ∷ rest) (own_all nodes ps customers.1 are.1)

  pub own_plan : (ps : List KindPlan) → AreOwn kinds k (customer_nodes g) ps → IsMixedPlan kinds k ps
  own_plan ps are =
      let customers : AreCustomers g (customer_nodes g) = filtered g (range_with_len 0 (node_count g)) in
      record {
        known = own_known (customer_nodes g) ps are;
        feasible = own_feasible (customer_nodes g) ps are;
        some = own_some (customer_nodes g) ps customers are;
        only = own_only (customer_nodes g) ps customers are;
        once = λ node known is. ap (λ nodes. times_in nodes node) (own_all (customer_nodes g) ps customers are) ∙ customer_once g node (known, is);
      }

-- ---- the fastest ones

module _ (kinds : List Network) where
  least_own : (nodes : List ℕ) (rs : List Searched) → AreLeastOwn kinds nodes rs → AreOwn kinds 1 nodes (kind_plans (routes_of rs))
  least_own [] [] are = tt
  least_own [] (r ∷ rs) are = absurd are
  least_own (n ∷ nodes) [] are = absurd are
  least_own (n ∷ nodes) (r ∷ rs) are =
      let route = are.0.searched.route in
      let here : IsOwn kinds 1 n (kind_plan r.route) = record { known = route.known; feasible = route.route.feasible; follows = are.0.follows } in
      (here, least_own nodes rs are.1)

  least_costs : (k : ℕ) (nodes : List ℕ) (rs : List Searched) (owns : List KindPlan) → AreLeastOwn kinds nodes rs → AreOwn kinds k nodes owns → k * cost_of_routes kinds (routes_of rs) ≤ mixed_cost kinds k owns
  least_costs k [] [] [] are plans = omega arith
  least_costs k [] [] (o ∷ owns) are plans = absurd plans
  least_costs k [] (r ∷ rs) owns are plans = absurd are
  least_costs k (n ∷ nodes) [] owns are plans = absurd are
  least_costs k (n ∷ nodes) (r ∷ rs) [] are plans = absurd plans
  least_costs k (n ∷ nodes) (r ∷ rs) (o ∷ owns) are plans =
      let here = are.0.least k o plans.0.known plans.0 in
      let time : k * r.time ≡ k * time_in kinds 1 (kind_plan r.route) = ap (λ t. k * t) are.0.searched.time in
      let rest = least_costs k nodes rs owns are.1 plans.1 in
      omega (arith, here, time, rest)

  least_firsts : (nodes : List ℕ) (rs : List Searched) → AreCustomers (first_of kinds) nodes → AreLeastOwn kinds nodes rs → map (first_customer kinds) (routes_of rs) ≡ nodes
  least_firsts [] [] customers are = refl
  least_firsts [] (r ∷ rs) customers are = absurd are
  least_firsts (n ∷ nodes) [] customers are = absurd are
  least_firsts (n ∷ nodes) (r ∷ rs) customers are =
      rw (own_customers (first_of kinds) n r.route.plan.stops customers.0 are.0.follows) (ap (λ rest. n ∷ rest) (least_firsts nodes rs customers.1 are.1))

  least_count : (nodes : List ℕ) (rs : List Searched) → AreLeastOwn kinds nodes rs → length (routes_of rs) ≡ length nodes
  least_count [] [] are = refl
  least_count [] (r ∷ rs) are = absurd are
  least_count (n ∷ nodes) [] are = absurd are
  least_count (n ∷ nodes) (r ∷ rs) are = ap suc (least_count nodes rs are.1)

  least_fit : AreFleetKinds kinds → (nodes : List ℕ) (rs : List Searched) → AreLeastOwn kinds nodes rs → All (FitsRoute (length kinds)) (routes_of rs)
  least_fit fleet [] [] are = All-nil (FitsRoute (length kinds))
  least_fit fleet [] (r ∷ rs) are = absurd are
  least_fit fleet (n ∷ nodes) [] are = absurd are
  least_fit fleet (n ∷ nodes) (r ∷ rs) are =
      let fits = route_fits kinds fleet r are.0.searched in
      All-cons (FitsRoute (length kinds)) r.route (routes_of rs) (record { kind = fits.kind; stops = fits.plan }) (least_fit fleet nodes rs are.1)

  abbrev nodes_of : List ℕ
  nodes_of = customer_nodes (first_of kinds)

  pub least_held : (rs : List Searched) → AreFleetKinds kinds → IsStrictlyIncreasing nodes_of → AreLeastOwn kinds nodes_of rs → IsHeld kinds (routes_of rs)
  least_held rs fleet rising are =
      let customers : AreCustomers (first_of kinds) nodes_of = filtered (first_of kinds) (range_with_len 0 (node_count (first_of kinds))) in
      let count = least_count nodes_of rs are in
      let few = fleet.few in
      record {
        plan = own_plan kinds 1 (kind_plans (routes_of rs)) (least_own nodes_of rs are);
        order = subst IsStrictlyIncreasing (sym (least_firsts nodes_of rs customers are)) rising;
        text = (omega (arith, count, few), least_fit fleet nodes_of rs are);
      }

  pub own_costs : (rs : List Searched) → AreLeastOwn kinds nodes_of rs → CostsNoMoreThanOwn kinds (Some (routes_of rs))
  own_costs rs are = λ k owns plans. (routes_of rs, refl, least_costs k nodes_of rs owns are plans)

  -- ---- where a customer can't be served alone
  none_own : (k : ℕ) (nodes : List ℕ) (owns : List KindPlan) (i node : ℕ) → i < length nodes → get_or nodes i node ≡ node → ((p : KindPlan) → p.kind < length kinds → IsOwn kinds k node p → ⊥) → AreOwn kinds k nodes owns → ⊥
  none_own k [] owns i node within here none plans = omega (arith, within)
  none_own k (n ∷ nodes) [] i node within here none plans = plans
  none_own k (n ∷ nodes) (o ∷ owns) zero node within here none plans = none o plans.0.known (subst (λ (x : ℕ). IsOwn kinds k x o) here plans.0)
  none_own k (n ∷ nodes) (o ∷ owns) (suc i) node within here none plans = none_own k nodes owns i node (omega (arith, within)) here none plans.1

  pub own_lacks : LacksOwn kinds nodes_of → CostsNoMoreThanOwn kinds None
  own_lacks lacks = λ k owns plans.
      absurd (none_own k nodes_of owns lacks.customer.0 lacks.node lacks.customer.1 lacks.customer.2 (λ p known own. lacks.none k p known own) plans)
