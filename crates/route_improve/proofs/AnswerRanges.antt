-- The plan that is answered may stand in a text: its numbers are small, and it has no more routes
-- than there are nodes.
use Rattle.std.proofs.Common.{◌≡◌, ◌≢◌, ℕ, ◌<◌, List, [], ◌∷◌, length, map, refl, ap, arith}
use Rattle.std.specs.Prelude.{Some}
use Rattle.std.specs.List.{All}
use Rattle.std.specs.List.Sorted.{IsStrictlyIncreasing}
use Rattle.std.proofs.lemmas.List.{length-map}
use Rattle.std.proofs.lemmas.Map.Keys.{sorted_from_strictly_increasing}
use Rattle.std.proofs.lemmas.Map.Views.{length-le_from_below}
use Rattle.std.proofs.lemmas.List.Elements.{All-cons, All-head, All-nil, All-tail}
use Rattle.ev_model.specs.Fleet.{customers_of}
use Rattle.ev_model.specs.Network.{IsNetwork, Network, node_count}
use Rattle.plan_check.specs.FleetRules.{IsCustomer}
use Rattle.route_plan.specs.PlanTexts.{FitsFile, FitsText}
use Rattle.route_plan.specs.declared.plan.RoutePlan.{RoutePlan}
use Rattle.route_plan.proofs.PlanRanges.{feasible_fits}
use Rattle.route_improve.specs.Arranged.{first_or_depot}
use Rattle.route_improve.specs.Finished.{ArePlansOf}
use Rattle.route_improve.specs.Orders.{orders_of}
use Rattle.route_improve.specs.Routes.{lists_of}
use Rattle.route_improve.specs.declared.route.Route.{Route}

-- ---- the plans of routes

plans_fit : (g : Network) (routes : List Route) (plans : List RoutePlan) → IsNetwork g → ArePlansOf g routes plans → All (λ p. FitsText p.stops) plans
plans_fit g [] [] network are = All-nil (λ (p : RoutePlan). FitsText p.stops)
plans_fit g [] (p ∷ ps) network are = absurd are
plans_fit g (r ∷ rs) [] network are = absurd are
plans_fit g (r ∷ rs) (p ∷ ps) network are =
    All-cons (λ (q : RoutePlan). FitsText q.stops) p ps (feasible_fits g g.capacity p.stops network are.0.feasible) (plans_fit g rs ps network are.1)

-- ---- there are not more routes than nodes

first_below : (g : Network) (items : List ℕ) → items ≢ [] → All (IsCustomer g) items → first_or_depot items < node_count g
first_below g [] some are = absurd (some refl)
first_below g (x ∷ xs) some are = (All-head (IsCustomer g) x xs are).0

firsts_below : (g : Network) (routes : List Route) → All (λ (r : Route). r.order.items ≢ []) routes → All (λ (r : Route). All (IsCustomer g) r.order.items) routes → All (λ x. x < node_count g) (map first_or_depot (lists_of routes))
firsts_below g [] some are = All-nil (λ (x : ℕ). x < node_count g)
firsts_below g (r ∷ rs) some are =
    let Served = λ (q : Route). q.order.items ≢ [] in
    let HasCustomers = λ (q : Route). All (IsCustomer g) q.order.items in
    All-cons (λ (x : ℕ). x < node_count g) (first_or_depot r.order.items) (map first_or_depot (lists_of rs))
    (first_below g r.order.items (All-head Served r rs some) (All-head HasCustomers r rs are))
    (firsts_below g rs (All-tail Served r rs some) (All-tail HasCustomers r rs are))

-- ---- the plan

pub fits_file : (g : Network) (routes : List Route) (plans : List RoutePlan) → IsNetwork g →
    All (λ (r : Route). r.order.items ≢ []) routes → All (λ (r : Route). All (IsCustomer g) r.order.items) routes → IsStrictlyIncreasing (map first_or_depot (lists_of routes))
    → orders_of g plans ≡ lists_of routes → ArePlansOf g routes plans → FitsFile (Some (record { routes = plans }))
fits_file g routes plans network some are rising same plans_are =
    let firsts = map first_or_depot (lists_of routes) in
    let few = length-le_from_below (node_count g) firsts (sorted_from_strictly_increasing firsts rising) (firsts_below g routes some are) in
    let orders : length (map first_or_depot (lists_of routes)) ≡ length (lists_of routes) = length-map (lists_of routes) first_or_depot in
    let lists : length (orders_of g plans) ≡ length (lists_of routes) = ap length same in
    let plans_count : length (orders_of g plans) ≡ length plans = length-map plans (λ (p : RoutePlan). customers_of g p.stops) in
    (omega (arith, few, orders, lists, plans_count, network.few_nodes), plans_fit g routes plans network plans_are)
