-- The routes of a fleet plan, and routes for customers alone.
use Rattle.std.proofs.Common.{◌≡◌, ◌∙◌, ℕ, zero, suc, ◌+◌, ◌<◌, ◌≤◌, List, [], ◌∷◌, ◌++◌, length, get_or, take, refl, sym, ap, subst, arith, inl, inr}
use Rattle.std.specs.List.{All}
use Rattle.std.proofs.lemmas.Bool.{cases_Bool}
use Rattle.std.proofs.lemmas.List.{take_all, take_more}
use Rattle.std.proofs.lemmas.List.Elements.{All-cons, All-head, All-nil, All-tail}
use Rattle.std.proofs.lemmas.List.Sums.{sum_by-cons}
use Rattle.ev_model.specs.Feasible.{IsFeasible}
use Rattle.ev_model.specs.Fleet.{IsFleetPlan, all_customers, cost_of, customers_of, times_in}
use Rattle.ev_model.specs.Network.{Network, is_customer, node_count}
use Rattle.ev_model.specs.declared.Stop.{Stop}
use Rattle.plan_check.proofs.VisitCounts.{times_in-append}
use Rattle.plan_check.proofs.Walks.{plan_known}
use Rattle.plan_check.specs.FleetRules.{IsCustomer, stops_of}
use Rattle.plan_check.specs.Tallies.{AreKnown}
use Rattle.route_plan.specs.declared.plan.RoutePlan.{RoutePlan}
use Rattle.order_pricing.specs.Orders.{IsOrder}
use Rattle.route_improve.specs.Begun.{AreRoutesOf, IsRouteOf}
use Rattle.route_improve.specs.Routes.{AreRoutes, cost_of_routes, stands_in}
use Rattle.route_improve.specs.declared.route.Route.{Route}
use Rattle.route_improve.proofs.Prices.{TakesLeast}

-- ---- the customers of a plan

customers_known : (g : Network) (stops : List Stop) → AreKnown g stops → All (IsCustomer g) (customers_of g stops)
customers_known g [] known = All-nil (IsCustomer g)
customers_known g (s ∷ ss) known =
    let here = All-head (λ (s : Stop). s.node < node_count g) s ss known in
    let rest = customers_known g ss (All-tail (λ (s : Stop). s.node < node_count g) s ss known) in
    elim (cases_Bool s.via) [
      | inl via ↦ rw via rest
      | inr own ↦ elim (cases_Bool (is_customer g s.node)) [
        | inl is ↦ rw (own, is) (All-cons (IsCustomer g) s.node (customers_of g ss) (here, is) rest)
        | inr other ↦ rw (own, other) rest
      ]
    ]

part_of_all : (g : Network) (ps : List RoutePlan) (k : ℕ) (d : RoutePlan) (node : ℕ) → k < length ps → times_in (customers_of g (get_or ps k d).stops) node ≤ times_in (all_customers g (stops_of ps)) node
part_of_all g [] k d node within = absurd (omega (arith, within))
part_of_all g (p ∷ ps) zero d node within = omega (arith, times_in-append (customers_of g p.stops) (all_customers g (stops_of ps)) node)
part_of_all g (p ∷ ps) (suc k) d node within =
    let rest = part_of_all g ps k d node (omega (arith, within)) in
    omega (arith, rest, times_in-append (customers_of g p.stops) (all_customers g (stops_of ps)) node)

feasible_at : (P : List Stop → Type 0) (ps : List RoutePlan) (k : ℕ) (d : RoutePlan) → All P (stops_of ps) → k < length ps → P (get_or ps k d).stops
feasible_at P [] k d all within = absurd (omega (arith, within))
feasible_at P (p ∷ ps) zero d all within = All-head P p.stops (stops_of ps) all
feasible_at P (p ∷ ps) (suc k) d all within = feasible_at P ps k d (All-tail P p.stops (stops_of ps) all) (omega (arith, within))

-- what holds of the stops of all plans holds at each
pub at_plan : (P : List Stop → Type 0) (ps : List RoutePlan) (k : ℕ) (p : RoutePlan) → All P (stops_of ps) → k < length ps → p ≡ get_or ps k p → P p.stops
at_plan P ps k p all within is = subst (λ (q : RoutePlan). P q.stops) (sym is) (feasible_at P ps k p all within)

pub order_at : (g : Network) (ps : List RoutePlan) (k : ℕ) (p : RoutePlan) → IsFleetPlan g 1 (stops_of ps) → k < length ps → p ≡ get_or ps k p → IsOrder g (customers_of g p.stops)
order_at g ps k p fleet within is = record {
  customers = customers_known g p.stops (plan_known g p.stops (at_plan (IsFeasible g 1 g.capacity) ps k p fleet.feasible within is));
  once = λ node customer.
      let part = part_of_all g ps k p node within in
      let same = ap (λ (q : RoutePlan). times_in (customers_of g q.stops) node) is in
      omega (arith, part, same, fleet.once node customer.0 customer.1);
}

-- ---- one route more

begun_push : (g : Network) (ps : List RoutePlan) (rs : List Route) (p : RoutePlan) (r : Route) → AreRoutesOf g ps rs → IsRouteOf g p.stops r → AreRoutesOf g (ps ++ p ∷ []) (rs ++ r ∷ [])
begun_push g [] [] p r are is = (is, tt)
begun_push g [] (q ∷ rs) p r are is = absurd are
begun_push g (q ∷ ps) [] p r are is = absurd are
begun_push g (q ∷ ps) (s ∷ rs) p r are is = (are.0, begun_push g ps rs p r are.1 is)

pub begun_more : (g : Network) (ps : List RoutePlan) (rs : List Route) (k : ℕ) (p : RoutePlan) (r : Route) → k < length ps → p ≡ get_or ps k p → AreRoutesOf g (take k ps) rs → IsRouteOf g p.stops r → AreRoutesOf g (take (k + 1) ps) (rs ++ r ∷ [])
begun_more g ps rs k p r within is are route =
    let more : take (k + 1) ps ≡ take k ps ++ p ∷ [] = take_more ps k p within ∙ ap (λ (q : RoutePlan). take k ps ++ q ∷ []) (sym is) in
    subst (λ (l : List RoutePlan). AreRoutesOf g l (rs ++ r ∷ [])) (sym more) (begun_push g (take k ps) rs p r are route)

-- ---- all routes

begun_least : (g : Network) (ps : List RoutePlan) (rs : List Route) → AreRoutesOf g ps rs → All (TakesLeast g) rs
begun_least g [] [] are = All-nil (TakesLeast g)
begun_least g [] (r ∷ rs) are = absurd are
begun_least g (p ∷ ps) [] are = absurd are
begun_least g (p ∷ ps) (r ∷ rs) are = All-cons (TakesLeast g) r rs are.0.least (begun_least g ps rs are.1)

begun_customers : (g : Network) (ps : List RoutePlan) (rs : List Route) → All (IsFeasible g 1 g.capacity) (stops_of ps) → AreRoutesOf g ps rs → All (λ (r : Route). All (IsCustomer g) r.order.items) rs
begun_customers g [] [] feasible are = All-nil (λ (r : Route). All (IsCustomer g) r.order.items)
begun_customers g [] (r ∷ rs) feasible are = absurd are
begun_customers g (p ∷ ps) [] feasible are = absurd are
begun_customers g (p ∷ ps) (r ∷ rs) feasible are =
    let known = plan_known g p.stops (All-head (IsFeasible g 1 g.capacity) p.stops (stops_of ps) feasible) in
    All-cons (λ (r : Route). All (IsCustomer g) r.order.items) r rs (subst (All (IsCustomer g)) (sym are.0.order) (customers_known g p.stops known))
    (begun_customers g ps rs (All-tail (IsFeasible g 1 g.capacity) p.stops (stops_of ps) feasible) are.1)

begun_once : (g : Network) (ps : List RoutePlan) (rs : List Route) (node : ℕ) → AreRoutesOf g ps rs → stands_in rs node ≡ times_in (all_customers g (stops_of ps)) node
begun_once g [] [] node are = refl
begun_once g [] (r ∷ rs) node are = absurd are
begun_once g (p ∷ ps) [] node are = absurd are
begun_once g (p ∷ ps) (r ∷ rs) node are =
    let here = ap (λ l. times_in l node) are.0.order in
    let rest = begun_once g ps rs node are.1 in
    omega (arith, here, rest, times_in-append (customers_of g p.stops) (all_customers g (stops_of ps)) node, sum_by-cons (λ (q : Route). times_in q.order.items node) r rs)

pub begun_cost : (g : Network) (ps : List RoutePlan) (rs : List Route) → AreRoutesOf g ps rs → cost_of_routes rs ≤ cost_of g 1 (stops_of ps)
begun_cost g [] [] are = omega arith
begun_cost g [] (r ∷ rs) are = absurd are
begun_cost g (p ∷ ps) [] are = absurd are
begun_cost g (p ∷ ps) (r ∷ rs) are = omega (arith, are.0.no_more, begun_cost g ps rs are.1, sum_by-cons (λ (q : Route). q.time) r rs)

pub begun_routes : (g : Network) (ps : List RoutePlan) (rs : List Route) → IsFleetPlan g 1 (stops_of ps) → AreRoutesOf g ps rs → AreRoutes g rs
begun_routes g ps rs fleet are = record {
  least = begun_least g ps rs are;
  customers = begun_customers g ps rs fleet.feasible are;
  once = λ node is. begun_once g ps rs node are ∙ fleet.once node is.0 is.1;
}

-- after the last route all are done
pub all_taken : (g : Network) (ps items : List RoutePlan) (k : ℕ) (rs : List Route) → items ≡ ps → length items ≤ k → AreRoutesOf g (take k ps) rs → AreRoutesOf g ps rs
all_taken g ps items k rs same end are =
    let long : length ps ≤ k = subst (λ (l : List RoutePlan). length l ≤ k) same end in
    subst (λ (l : List RoutePlan). AreRoutesOf g l rs) (take_all k ps long) are
