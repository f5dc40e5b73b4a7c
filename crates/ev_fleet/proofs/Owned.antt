-- A fastest route for each customer alone: these are a fleet plan, which no routes for the customers alone cost less than.
use Rattle.std.proofs.Common.{◌≡◌, ◌≢◌, ◌∙◌, ℕ, zero, suc, ◌+◌, ◌*◌, ◌<◌, ◌≤◌, true, List, [], ◌∷◌, ◌++◌, Some, None, filter, length, get_or, map, refl, sym, ap, subst, take, arith, inl, inr}
use Rattle.std.specs.Prelude.{slice_index}
use Rattle.std.specs.List.{All, range_with_len}
use Rattle.std.specs.List.Sorted.{IsStrictlyIncreasing}
use Rattle.std.proofs.lemmas.Bool.{cases_eq, eq-eqb, false≢true, ne_eqb}
use Rattle.std.proofs.lemmas.List.{take_more}
use Rattle.std.proofs.lemmas.List.Elements.{All-cons, All-nil}
use Rattle.ev_model.specs.Feasible.{IsFeasible}
use Rattle.ev_model.specs.Fleet.{IsFleetPlan, ServesOnly, all_customers, cost_of, customers_of, times_in}
use Rattle.ev_model.specs.Network.{IsNetwork, Network, is_customer, node_count}
use Rattle.ev_model.specs.Route.{FollowsRoute, IsRoute, route_of}
use Rattle.ev_model.specs.declared.Stop.{Stop}
use Rattle.fleet_model.proofs.Counts.{AreCustomers}
use Rattle.fleet_model.proofs.Plans.{filtered}
use Rattle.instance_reader.specs.Instance.{customer_nodes}
use Rattle.plan_check.specs.FleetRules.{stops_of}
use Rattle.plan_check.proofs.CustomersOnce.{customer_once}
use Rattle.route_plan.specs.declared.plan.FleetPlan.{FleetPlan}
use Rattle.route_plan.specs.declared.plan.RoutePlan.{RoutePlan}
use Rattle.route_pool.specs.Pool.{IsColumn}
use Rattle.ev_fleet.specs.OwnRoutes.{AreFastestOwn, HasNoOwn, IsFastestOwn, LacksOwn, own_route}
use Rattle.ev_fleet.specs.Plans.{AreOwnRoutes, CostsNoMoreThanOwn, IsHeld, first_customer}
use Rattle.ev_fleet.proofs.HeldPlans.{may_hold}

-- ---- one more customer

own_push : (g : Network) (nodes : List ℕ) (ps : List RoutePlan) (node : ℕ) (p : RoutePlan) → AreFastestOwn g nodes ps → IsFastestOwn g node p.stops → AreFastestOwn g (nodes ++ node ∷ []) (ps ++ p ∷ [])
own_push g [] [] node p are is = (is, tt)
own_push g [] (q ∷ ps) node p are is = absurd are
own_push g (n ∷ nodes) [] node p are is = absurd are
own_push g (n ∷ nodes) (q ∷ ps) node p are is = (are.0, own_push g nodes ps node p are.1 is)

pub own_step : (g : Network) (nodes : List ℕ) (ps : List RoutePlan) (i : ℕ) (p : RoutePlan) → i < length nodes → AreFastestOwn g (take i nodes) ps → IsFastestOwn g (slice_index nodes i) p.stops
    → AreFastestOwn g (take (i + 1) nodes) (ps ++ p ∷ [])
own_step g nodes ps i p within are is =
    subst (λ l. AreFastestOwn g l (ps ++ p ∷ [])) (sym (take_more nodes i 0 within)) (own_push g (take i nodes) ps (slice_index nodes i) p are is)

-- ---- the routes are a fleet plan

own_customers : (g : Network) (node : ℕ) (stops : List Stop) → is_customer g node ≡ true → FollowsRoute (own_route node) stops → customers_of g stops ≡ node ∷ []
own_customers g node stops is follows =
    let alone : filter (is_customer g) (own_route node) ≡ node ∷ [] = rw is refl in
    ap (filter (is_customer g)) follows ∙ alone

own_feasible : (g : Network) (nodes : List ℕ) (ps : List RoutePlan) → AreFastestOwn g nodes ps → All (IsFeasible g 1 g.capacity) (stops_of ps)
own_feasible g [] [] are = All-nil (IsFeasible g 1 g.capacity)
own_feasible g [] (p ∷ ps) are = absurd are
own_feasible g (n ∷ nodes) [] are = absurd are
own_feasible g (n ∷ nodes) (p ∷ ps) are = All-cons (IsFeasible g 1 g.capacity) p.stops (stops_of ps) are.0.feasible (own_feasible g nodes ps are.1)

own_some : (g : Network) (nodes : List ℕ) (ps : List RoutePlan) → AreCustomers g nodes → AreFastestOwn g nodes ps → All (λ stops. customers_of g stops ≢ []) (stops_of ps)
own_some g [] [] customers are = All-nil (λ stops. customers_of g stops ≢ [])
own_some g [] (p ∷ ps) customers are = absurd are
own_some g (n ∷ nodes) [] customers are = absurd are
own_some g (n ∷ nodes) (p ∷ ps) customers are =
    let one = own_customers g n p.stops customers.0 are.0.follows in
    let here : customers_of g p.stops ≢ [] = λ none. let never : n ∷ [] ≡ [] = sym one ∙ none in cc in
    All-cons (λ stops. customers_of g stops ≢ []) p.stops (stops_of ps) here (own_some g nodes ps customers.1 are.1)

own_only : (g : Network) (nodes : List ℕ) (ps : List RoutePlan) → AreCustomers g nodes → AreFastestOwn g nodes ps → All (ServesOnly g) (stops_of ps)
own_only g [] [] customers are = All-nil (ServesOnly g)
own_only g [] (p ∷ ps) customers are = absurd are
own_only g (n ∷ nodes) [] customers are = absurd are
own_only g (n ∷ nodes) (p ∷ ps) customers are =
    let one = own_customers g n p.stops customers.0 are.0.follows in
    let here : route_of p.stops ≡ 0 ∷ (customers_of g p.stops ++ 0 ∷ []) = are.0.follows ∙ ap (λ nodes. 0 ∷ (nodes ++ 0 ∷ [])) (sym one) in
    All-cons (ServesOnly g) p.stops (stops_of ps) here (own_only g nodes ps customers.1 are.1)

own_all : (g : Network) (nodes : List ℕ) (ps : List RoutePlan) → AreCustomers g nodes → AreFastestOwn g nodes ps → all_customers g (stops_of ps) ≡ nodes
own_all g [] [] customers are = refl
own_all g [] (p ∷ ps) customers are = absurd are
own_all g (n ∷ nodes) [] customers are = absurd are
own_all g (n ∷ nodes) (p ∷ ps) customers are =
    ap (λ first. first ++ all_customers g (stops_of ps)) (own_customers g n p.stops customers.0 are.0.follows) ∙ ap (λ rest. n ∷ rest) (own_all g nodes ps customers.1 are.1)

own_firsts : (g : Network) (nodes : List ℕ) (ps : List RoutePlan) → AreCustomers g nodes → AreFastestOwn g nodes ps → map (first_customer g) ps ≡ nodes
own_firsts g [] [] customers are = refl
own_firsts g [] (p ∷ ps) customers are = absurd are
own_firsts g (n ∷ nodes) [] customers are = absurd are
own_firsts g (n ∷ nodes) (p ∷ ps) customers are =
    rw (own_customers g n p.stops customers.0 are.0.follows) (ap (λ rest. n ∷ rest) (own_firsts g nodes ps customers.1 are.1))

own_fleet : (g : Network) (ps : List RoutePlan) → AreFastestOwn g (customer_nodes g) ps → IsFleetPlan g 1 (stops_of ps)
own_fleet g ps are =
    let customers : AreCustomers g (customer_nodes g) = filtered g (range_with_len 0 (node_count g)) in
    record {
      feasible = own_feasible g (customer_nodes g) ps are;
      some = own_some g (customer_nodes g) ps customers are;
      only = own_only g (customer_nodes g) ps customers are;
      once = λ node known is.
          ap (λ nodes. times_in nodes node) (own_all g (customer_nodes g) ps customers are) ∙ customer_once g node (known, is);
    }

pub own_held : (g : Network) (plan : FleetPlan) → IsNetwork g → IsStrictlyIncreasing (customer_nodes g) → AreFastestOwn g (customer_nodes g) plan.routes → IsHeld g plan
own_held g plan network rising are =
    let customers : AreCustomers g (customer_nodes g) = filtered g (range_with_len 0 (node_count g)) in
    may_hold g plan network (own_fleet g plan.routes are) (subst IsStrictlyIncreasing (sym (own_firsts g (customer_nodes g) plan.routes customers are)) rising)

-- ---- a route as a column, and the way that it takes

pub own_column : (g : Network) (node : ℕ) (stops : List Stop) → is_customer g node ≡ true → IsFastestOwn g node stops → IsColumn g (node ∷ []) stops
own_column g node stops is own =
    let one = own_customers g node stops is own.follows in
    record {
      route = record {
        feasible = own.feasible;
        some = λ none. let never : node ∷ [] ≡ [] = sym one ∙ none in cc;
        only = own.follows ∙ ap (λ nodes. 0 ∷ (nodes ++ 0 ∷ [])) (sym one);
        once = λ x customer. rw one (once_alone x);
      };
      serves = one;
    }
  where
    once_alone : (x : ℕ) → times_in (node ∷ []) x ≤ 1
    once_alone x = elim (cases_eq node x) [
      | inl same ↦ rw (eq-eqb node x same) (omega arith)
      | inr apart ↦ rw (ne_eqb node x apart) (omega arith)
    ]

pub own_way : (g : Network) (node : ℕ) → IsNetwork g → node < node_count g → is_customer g node ≡ true → IsRoute g (own_route node)
own_way g node network known is =
    let away : node ≢ 0 = λ home. false≢true (subst (λ x. is_customer g x ≡ true) home is) in
    let depot : 0 < node_count g = omega (arith, network.depot) in (
      node ∷ [],
      record {
        ends = refl;
        known = All-cons (λ x. x < node_count g) 0 (node ∷ 0 ∷ []) depot
            (All-cons (λ x. x < node_count g) node (0 ∷ []) known (All-cons (λ x. x < node_count g) 0 [] depot (All-nil (λ x. x < node_count g))));
        no_depot = All-cons (λ x. x ≢ 0) node [] away (All-nil (λ x. x ≢ 0));
        moves = (away, (λ home. away (sym home), tt));
      },
    )

-- ---- no other routes for the customers alone cost less

own_least : (g : Network) (k : ℕ) (nodes : List ℕ) (ps : List RoutePlan) (owns : List (List Stop)) → AreFastestOwn g nodes ps → AreOwnRoutes g k nodes owns → k * cost_of g 1 (stops_of ps) ≤ cost_of g k owns
own_least g k [] [] [] are routes = omega arith
own_least g k [] [] (o ∷ owns) are routes = absurd routes
own_least g k [] (p ∷ ps) owns are routes = absurd are
own_least g k (n ∷ nodes) [] owns are routes = absurd are
own_least g k (n ∷ nodes) (p ∷ ps) [] are routes = absurd routes
own_least g k (n ∷ nodes) (p ∷ ps) (o ∷ owns) are routes =
    let here = are.0.fastest k o routes.0 routes.1 in
    let rest = own_least g k nodes ps owns are.1 routes.2 in
    omega (arith, here, rest)

pub own_costs : (g : Network) (plan : FleetPlan) → AreFastestOwn g (customer_nodes g) plan.routes → CostsNoMoreThanOwn g (Some plan)
own_costs g plan are = λ k owns routes. (plan, refl, own_least g k (customer_nodes g) plan.routes owns are routes)

-- ---- where a customer can't be served alone

none_own : (g : Network) (k : ℕ) (nodes : List ℕ) (owns : List (List Stop)) (i node : ℕ) → i < length nodes → get_or nodes i node ≡ node → HasNoOwn g node → AreOwnRoutes g k nodes owns → ⊥
none_own g k [] owns i node within here none routes = omega (arith, within)
none_own g k (n ∷ nodes) [] i node within here none routes = routes
none_own g k (n ∷ nodes) (o ∷ owns) zero node within here none routes = none k o routes.0 (subst (λ x. FollowsRoute (own_route x) o) here routes.1)
none_own g k (n ∷ nodes) (o ∷ owns) (suc i) node within here none routes = none_own g k nodes owns i node (omega (arith, within)) here none routes.2

pub own_lacks : (g : Network) → LacksOwn g → CostsNoMoreThanOwn g None
own_lacks g lacks = λ k owns routes.
    absurd (none_own g k (customer_nodes g) owns lacks.customer.0 lacks.node lacks.customer.1 lacks.customer.2 lacks.none routes)
