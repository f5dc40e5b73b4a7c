-- The plans of routes are a fleet plan that serves their customers in their order, at their cost.
use Rattle.std.proofs.Common.{◌≡◌, ◌≢◌, ◌∙◌, ℕ, List, [], ◌∷◌, ◌++◌, filter, refl, sym, ap, arith}
use Rattle.std.specs.List.{All}
use Rattle.std.proofs.lemmas.List.Elements.{All-cons, All-head, All-nil, All-tail}
use Rattle.std.proofs.lemmas.List.Sums.{sum_by-cons}
use Rattle.ev_model.specs.Fastest.{IsFastest}
use Rattle.ev_model.specs.Feasible.{IsFeasible}
use Rattle.ev_model.specs.Fleet.{IsFleetPlan, ServesOnly, all_customers, cost_of, customers_of, times_in}
use Rattle.ev_model.specs.Network.{Network, is_customer}
use Rattle.ev_model.specs.Route.{FollowsRoute}
use Rattle.ev_model.specs.Time.{time_of}
use Rattle.ev_model.specs.declared.Stop.{Stop}
use Rattle.plan_check.proofs.VisitCounts.{times_in-append}
use Rattle.plan_check.specs.FleetRules.{IsCustomer, stops_of}
use Rattle.route_plan.specs.declared.plan.RoutePlan.{RoutePlan}
use Rattle.order_pricing.specs.Orders.{IsLeastTime, route_over}
use Rattle.route_improve.specs.Finished.{ArePlansOf, IsPlanOf}
use Rattle.route_improve.specs.Orders.{orders_of}
use Rattle.route_improve.specs.Routes.{cost_of_routes, lists_of, stands_in}
use Rattle.route_improve.specs.declared.route.Route.{Route}
use Rattle.route_improve.proofs.Prices.{TakesLeast, least_once}

-- the customers of a route over customers are these
kept_customers : (g : Network) (xs : List ℕ) → All (IsCustomer g) xs → filter (is_customer g) (xs ++ 0 ∷ []) ≡ xs
kept_customers g [] are = refl
kept_customers g (x ∷ xs) are = rw ((All-head (IsCustomer g) x xs are).1, kept_customers g xs (All-tail (IsCustomer g) x xs are)) refl

pub served_in_order : (g : Network) (order : List ℕ) (stops : List Stop) → All (IsCustomer g) order → FollowsRoute (route_over order) stops → customers_of g stops ≡ order
served_in_order g order stops are follows = ap (filter (is_customer g)) follows ∙ kept_customers g order are

module _ (g : Network) where
  abbrev HasCustomers : Route → Type 0
  HasCustomers r = All (IsCustomer g) r.order.items

  abbrev IsServed : Route → Type 0
  IsServed r = r.order.items ≢ []

  pub plan_customers : (r : Route) (p : RoutePlan) → HasCustomers r → IsPlanOf g r p → customers_of g p.stops ≡ r.order.items
  plan_customers r p are is = served_in_order g r.order.items p.stops are is.follows

  pub plans_orders : (routes : List Route) (plans : List RoutePlan) → All HasCustomers routes → ArePlansOf g routes plans → orders_of g plans ≡ lists_of routes
  plans_orders [] [] are is = refl
  plans_orders [] (p ∷ ps) are is = absurd is
  plans_orders (r ∷ rs) [] are is = absurd is
  plans_orders (r ∷ rs) (p ∷ ps) are is =
      rw (plan_customers r p (All-head HasCustomers r rs are) is.0, plans_orders rs ps (All-tail HasCustomers r rs are) is.1) refl

  plans_feasible : (routes : List Route) (plans : List RoutePlan) → ArePlansOf g routes plans → All (IsFeasible g 1 g.capacity) (stops_of plans)
  plans_feasible [] [] is = All-nil (IsFeasible g 1 g.capacity)
  plans_feasible [] (p ∷ ps) is = absurd is
  plans_feasible (r ∷ rs) [] is = absurd is
  plans_feasible (r ∷ rs) (p ∷ ps) is = All-cons (IsFeasible g 1 g.capacity) p.stops (stops_of ps) is.0.feasible (plans_feasible rs ps is.1)

  plans_some : (routes : List Route) (plans : List RoutePlan) → All HasCustomers routes → All IsServed routes → ArePlansOf g routes plans → All (λ stops. customers_of g stops ≢ []) (stops_of plans)
  plans_some [] [] are some is = All-nil (λ stops. customers_of g stops ≢ [])
  plans_some [] (p ∷ ps) are some is = absurd is
  plans_some (r ∷ rs) [] are some is = absurd is
  plans_some (r ∷ rs) (p ∷ ps) are some is =
      let here : customers_of g p.stops ≢ [] = λ none. All-head IsServed r rs some (sym (plan_customers r p (All-head HasCustomers r rs are) is.0) ∙ none) in
      All-cons (λ stops. customers_of g stops ≢ []) p.stops (stops_of ps) here (plans_some rs ps (All-tail HasCustomers r rs are) (All-tail IsServed r rs some) is.1)

  plans_only : (routes : List Route) (plans : List RoutePlan) → All HasCustomers routes → ArePlansOf g routes plans → All (ServesOnly g) (stops_of plans)
  plans_only [] [] are is = All-nil (ServesOnly g)
  plans_only [] (p ∷ ps) are is = absurd is
  plans_only (r ∷ rs) [] are is = absurd is
  plans_only (r ∷ rs) (p ∷ ps) are is =
      let here : ServesOnly g p.stops = is.0.follows ∙ ap route_over (sym (plan_customers r p (All-head HasCustomers r rs are) is.0)) in
      All-cons (ServesOnly g) p.stops (stops_of ps) here (plans_only rs ps (All-tail HasCustomers r rs are) is.1)

  plans_once : (routes : List Route) (plans : List RoutePlan) (node : ℕ) → All HasCustomers routes → ArePlansOf g routes plans → times_in (all_customers g (stops_of plans)) node ≡ stands_in routes node
  plans_once [] [] node are is = refl
  plans_once [] (p ∷ ps) node are is = absurd is
  plans_once (r ∷ rs) [] node are is = absurd is
  plans_once (r ∷ rs) (p ∷ ps) node are is =
      let here = ap (λ l. times_in l node) (plan_customers r p (All-head HasCustomers r rs are) is.0) in
      let rest = plans_once rs ps node (All-tail HasCustomers r rs are) is.1 in
      omega (arith, here, rest, times_in-append (customers_of g p.stops) (all_customers g (stops_of ps)) node, sum_by-cons (λ (q : Route). times_in q.order.items node) r rs)

  pub plans_fleet : (routes : List Route) (plans : List RoutePlan) → All HasCustomers routes → All IsServed routes → ((node : ℕ) → IsCustomer g node → stands_in routes node ≡ 1) → ArePlansOf g routes plans → IsFleetPlan g 1 (stops_of plans)
  plans_fleet routes plans are some once is = record {
    feasible = plans_feasible routes plans is;
    some = plans_some routes plans are some is;
    only = plans_only routes plans are is;
    once = λ node known customer. plans_once routes plans node are is ∙ once node (known, customer);
  }

  at_time : (items : List ℕ) (time : ℕ) (p : RoutePlan) → items ≢ [] → IsLeastTime g items time → IsFastest g (route_over items) g.capacity p.stops → time_of g 1 g.capacity p.stops ≡ time
  at_time [] time p some least is = absurd (some refl)
  at_time (x ∷ xs) time p some least is = least_once g (x ∷ xs) (time_of g 1 g.capacity p.stops) time (p.stops, is, refl) least

  pub plans_cost : (routes : List Route) (plans : List RoutePlan) → All IsServed routes → All (TakesLeast g) routes → ArePlansOf g routes plans → cost_of g 1 (stops_of plans) ≡ cost_of_routes routes
  plans_cost [] [] some least is = refl
  plans_cost [] (p ∷ ps) some least is = absurd is
  plans_cost (r ∷ rs) [] some least is = absurd is
  plans_cost (r ∷ rs) (p ∷ ps) some least is =
      let here = at_time r.order.items r.time p (All-head IsServed r rs some) (All-head (TakesLeast g) r rs least) is.0 in
      let rest = plans_cost rs ps (All-tail IsServed r rs some) (All-tail (TakesLeast g) r rs least) is.1 in
      omega (arith, here, rest, sum_by-cons (λ (q : Route). q.time) r rs)
