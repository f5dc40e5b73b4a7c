-- The plan of settled routes is what is answered.
use Rattle.std.proofs.Common.{◌≡◌, ◌≢◌, ◌∙◌, ℕ, zero, suc, ◌+◌, ◌<◌, ◌≤◌, Bool, true, false, List, [], ◌∷◌, ◌++◌, Option, length, get_or, map, take, refl, sym, ap, subst, arith, sum_by, add-one}
use Rattle.std.specs.Prelude.{nat_eq, slice_index, if◌then◌else◌}
use Rattle.std.specs.List.{All}
use Rattle.std.specs.List.Sorted.{IsNonDecreasingBy, IsStrictlyIncreasing}
use Rattle.std.proofs.lemmas.Bool.{eq-eqb, false≢true, ne_eqb}
use Rattle.std.proofs.lemmas.List.{append-nil, get_or-map, get_or_append_left, length-append, length-map, take_more}
use Rattle.std.proofs.lemmas.List.Elements.{filter-append, All-cons, All-get_or, All-head, All-nil, All-tail}
use Rattle.std.proofs.lemmas.List.Sorted.{All-permutation}
use Rattle.std.proofs.lemmas.List.Sums.{get_or-le-sum_by, sum_by-append, sum_by-cons}
use Rattle.ev_model.specs.Fastest.{IsFastest}
use Rattle.ev_model.specs.Fleet.{cost_of, times_in}
use Rattle.ev_model.specs.Network.{IsNetwork, Network}
use Rattle.plan_check.specs.FleetRules.{IsCustomer, stops_of}
use Rattle.route_plan.specs.declared.plan.RoutePlan.{RoutePlan}
use Rattle.order_pricing.specs.Orders.{IsOrder, route_over}
use Rattle.route_improve.specs.Arranged.{AreArranged, are_served, first_node, first_or_depot}
use Rattle.route_improve.specs.Finished.{ArePlansOf, IsPlanOf}
use Rattle.route_improve.specs.Improved.{IsAnswer, IsFastestForOrder, IsImproved, IsMoved, IsOrderly, IsTimedAnswer}
use Rattle.route_improve.specs.declared.improving.Improved.{Improved}
use Rattle.route_improve.specs.declared.improving.Improved.TheVariants.{Plan, Alone}
use Rattle.route_improve.specs.Moves.{IsSettled, has_customer}
use Rattle.route_improve.specs.Orders.{orders_of}
use Rattle.route_improve.specs.Routes.{AreRoutes, AreSettledTo, cost_of_routes, lists_of, stands_in}
use Rattle.route_improve.specs.declared.route.Route.{Route}
use Rattle.route_improve.proofs.AnswerRanges.{fits_file}
use Rattle.route_improve.proofs.FinishedPlans.{plan_customers, plans_cost, plans_fleet, plans_orders}
use Rattle.route_improve.proofs.Prices.{TakesLeast}
use Rattle.route_improve.proofs.Settled.{cost_all, least_front, settled}

abbrev IsServed : Route → Type 0
IsServed r = r.order.items ≢ []

abbrev times_on : ℕ → Route → ℕ
times_on node r = times_in r.order.items node

-- ---- the routes with customers

serves : (r : Route) (rs : List Route) (items : List ℕ) → r.order.items ≡ items → All IsServed (are_served rs) → All IsServed (if has_customer items then r ∷ are_served rs else are_served rs)
serves r rs [] is all = all
serves r rs (x ∷ xs) is all = All-cons IsServed r (are_served rs) (λ none. let never : x ∷ xs ≡ [] = sym is ∙ none in cc) all

all_served : (rs : List Route) → All IsServed (are_served rs)
all_served [] = All-nil IsServed
all_served (r ∷ rs) = serves r rs r.order.items refl (all_served rs)

has_some : (items : List ℕ) → items ≢ [] → has_customer items ≡ true
has_some [] some = absurd (some refl)
has_some (x ∷ xs) some = refl

served_same : (rs : List Route) → All IsServed rs → are_served rs ≡ rs
served_same [] all = refl
served_same (r ∷ rs) all = rw (has_some r.order.items (All-head IsServed r rs all), served_same rs (All-tail IsServed r rs all)) refl

skipped : (r : Route) (rs : List Route) (items : List ℕ) → items ≡ [] → (if has_customer items then r ∷ are_served rs else are_served rs) ≡ are_served rs
skipped r rs [] none = refl
skipped r rs (x ∷ xs) none = absurd (cc)

served_front : (front : List Route) (empty : Route) → All IsServed front → empty.order.items ≡ [] → are_served (front ++ empty ∷ []) ≡ front
served_front [] empty all none = skipped empty [] empty.order.items none
served_front (r ∷ rs) empty all none = rw (has_some r.order.items (All-head IsServed r rs all), served_front rs empty (All-tail IsServed r rs all) none) refl

pub some_in : (items : List ℕ) (empty : Bool) → empty ≡ nat_eq (length items) 0 → empty ≡ false → items ≢ []
some_in items empty is some none = false≢true (sym some ∙ is ∙ ap (λ l. nat_eq (length l) 0) none)

pub none_in : (items : List ℕ) (empty : Bool) → empty ≡ nat_eq (length items) 0 → empty ≡ true → items ≡ []
none_in [] empty is none = refl
none_in (x ∷ xs) empty is none = absurd (false≢true (sym (ne_eqb (length (x ∷ xs)) 0 (omega arith)) ∙ sym is ∙ none))

-- ---- a plan for one route more

one_order : (g : Network) (routes : List Route) (k : ℕ) (r : Route) → AreRoutes g routes → k < length routes → r ≡ get_or routes k r → IsOrder g r.order.items
one_order g routes k r are within is = record {
  customers = subst (λ (q : Route). All (IsCustomer g) q.order.items) (sym is) (All-get_or (λ (q : Route). All (IsCustomer g) q.order.items) routes k r within are.customers);
  once = λ node customer.
      let part = get_or-le-sum_by (times_on node) routes k r within in
      let same = ap (times_on node) is in
      omega (arith, part, same, are.once node customer);
}

pub order_of_route : (g : Network) (routes : List Route) (k : ℕ) (r : Route) → AreRoutes g routes → k < length routes → r ≡ get_or routes k r → IsOrder g r.order.items
order_of_route = one_order

pub least_of_route : (g : Network) (routes : List Route) (k : ℕ) (r : Route) → AreRoutes g routes → k < length routes → r ≡ get_or routes k r → TakesLeast g r
least_of_route g routes k r are within is = subst (TakesLeast g) (sym is) (All-get_or (TakesLeast g) routes k r within are.least)

plans_push : (g : Network) (rs : List Route) (ps : List RoutePlan) (r : Route) (p : RoutePlan) → ArePlansOf g rs ps → IsPlanOf g r p → ArePlansOf g (rs ++ r ∷ []) (ps ++ p ∷ [])
plans_push g [] [] r p are is = (is, tt)
plans_push g [] (q ∷ ps) r p are is = absurd are
plans_push g (s ∷ rs) [] r p are is = absurd are
plans_push g (s ∷ rs) (q ∷ ps) r p are is = (are.0, plans_push g rs ps r p are.1 is)

served_more : (routes : List Route) (k : ℕ) (r : Route) → k < length routes → r ≡ get_or routes k r → are_served (take (k + 1) routes) ≡ are_served (take k routes) ++ are_served (r ∷ [])
served_more routes k r within is =
    let more : take (k + 1) routes ≡ take k routes ++ r ∷ [] = take_more routes k r within ∙ ap (λ (q : Route). take k routes ++ q ∷ []) (sym is) in
    ap are_served more ∙ filter-append (λ (q : Route). has_customer q.order.items) (take k routes) (r ∷ [])

pub plans_more : (g : Network) (routes : List Route) (k : ℕ) (r : Route) (ps : List RoutePlan) (p : RoutePlan) → k < length routes → r ≡ get_or routes k r → r.order.items ≢ [] → ArePlansOf g (are_served (take k routes)) ps → IsPlanOf g r p
    → ArePlansOf g (are_served (take (k + 1) routes)) (ps ++ p ∷ [])
plans_more g routes k r ps p within is some are plan =
    let one : are_served (r ∷ []) ≡ r ∷ [] = rw (has_some r.order.items some) refl in
    subst (λ (l : List Route). ArePlansOf g l (ps ++ p ∷ [])) (sym (served_more routes k r within is ∙ ap (λ (l : List Route). are_served (take k routes) ++ l) one))
    (plans_push g (are_served (take k routes)) ps r p are plan)

pub plans_same : (g : Network) (routes : List Route) (k : ℕ) (r : Route) (ps : List RoutePlan) → k < length routes → r ≡ get_or routes k r → r.order.items ≡ [] → ArePlansOf g (are_served (take k routes)) ps
    → ArePlansOf g (are_served (take (k + 1) routes)) ps
plans_same g routes k r ps within is none are =
    let nothing : are_served (r ∷ []) ≡ [] = skipped r [] r.order.items none in
    subst (λ (l : List Route). ArePlansOf g l ps) (sym (served_more routes k r within is ∙ ap (λ (l : List Route). are_served (take k routes) ++ l) nothing ∙ append-nil (are_served (take k routes)))) are

-- ---- the first customers rise

stands : (items : List ℕ) → items ≢ [] → 1 ≤ times_in items (first_or_depot items)
stands [] some = absurd (some refl)
stands (x ∷ xs) some = rw (eq-eqb x x refl) (omega arith)

first_is : (g : Network) (items : List ℕ) → items ≢ [] → All (IsCustomer g) items → IsCustomer g (first_or_depot items)
first_is g [] some all = absurd (some refl)
first_is g (x ∷ xs) some all = All-head (IsCustomer g) x xs all

adjacent : (f : Route → ℕ) (rs : List Route) (k : ℕ) (d : Route) → suc k < length rs → f (get_or rs k d) + f (get_or rs (suc k) d) ≤ sum_by f rs
adjacent f [] k d within = absurd (omega (arith, within))
adjacent f (r ∷ []) k d within = absurd (omega (arith, within))
adjacent f (r ∷ s ∷ rs) zero d within = omega (arith, sum_by-cons f r (s ∷ rs), sum_by-cons f s rs)
adjacent f (r ∷ s ∷ rs) (suc k) d within = omega (arith, adjacent f (s ∷ rs) k d (omega (arith, within)), sum_by-cons f r (s ∷ rs))

module _ (g : Network) (front : List Route) (some : All IsServed front) (customers : All (λ (r : Route). All (IsCustomer g) r.order.items) front) (once : (node : ℕ) → IsCustomer g node → stands_in front node ≡ 1) where
  apart_at : (k : ℕ) (d : Route) → suc k < length front → first_node (get_or front k d) ≢ first_node (get_or front (suc k) d)
  apart_at k d within same =
      let short : k < length front = omega (arith, within) in
      let here = All-get_or IsServed front k d short some in
      let next = All-get_or IsServed front (suc k) d within some in
      let is = first_is g (get_or front k d).order.items here (All-get_or (λ (r : Route). All (IsCustomer g) r.order.items) front k d short customers) in
      let one = stands (get_or front k d).order.items here in
      let two : 1 ≤ times_in (get_or front (suc k) d).order.items (first_node (get_or front k d)) =
      subst (λ n. 1 ≤ times_in (get_or front (suc k) d).order.items n) (sym same) (stands (get_or front (suc k) d).order.items next) in
      let both = adjacent (times_on (first_node (get_or front k d))) front k d within in
      omega (arith, one, two, both, once (first_node (get_or front k d)) is)

  at_first : (n : ℕ) (d : Route) → n < length front → slice_index (map first_or_depot (lists_of front)) n ≡ first_node (get_or front n d)
  at_first n d inside =
      let lists : n < length (lists_of front) = rw length-map inside in
      get_or-map first_or_depot (lists_of front) n [] 0 lists ∙ ap first_or_depot (get_or-map (λ (r : Route). r.order.items) front n d [] inside)

  pub firsts_rise : (d : Route) → IsNonDecreasingBy first_node front → IsStrictlyIncreasing (map first_or_depot (lists_of front))
  firsts_rise d up k within =
      let count : length (map first_or_depot (lists_of front)) ≡ length front = length-map (lists_of front) first_or_depot ∙ length-map front (λ (r : Route). r.order.items) in
      let long : k + 1 < length front = omega (arith, within, count) in
      let left = at_first k d (omega (arith, long)) in
      let right = at_first (k + 1) d long in
      let order : first_node (get_or front k d) ≤ first_node (get_or front (k + 1) d) = up k (k + 1) d (omega arith) long in
      let apart : first_node (get_or front k d) ≢ first_node (get_or front (k + 1) d) = subst (λ n. first_node (get_or front k d) ≢ first_node (get_or front n d)) (sym (add-one k)) (apart_at k d (omega (arith, long))) in
      omega (arith, left, right, order, apart)

-- ---- the plan

fastest_all : (g : Network) (rs : List Route) (ps : List RoutePlan) → All (λ (r : Route). All (IsCustomer g) r.order.items) rs → ArePlansOf g rs ps → All (IsFastestForOrder g) ps
fastest_all g [] [] customers are = All-nil (IsFastestForOrder g)
fastest_all g [] (p ∷ ps) customers are = absurd are
fastest_all g (r ∷ rs) [] customers are = absurd are
fastest_all g (r ∷ rs) (p ∷ ps) customers are =
    let same = plan_customers g r p (All-head (λ (r : Route). All (IsCustomer g) r.order.items) r rs customers) are.0 in
    All-cons (IsFastestForOrder g) p ps (subst (λ l. IsFastest g (route_over l) g.capacity p.stops) (sym same) are.0)
    (fastest_all g rs ps (All-tail (λ (r : Route). All (IsCustomer g) r.order.items) r rs customers) are.1)

front_part : (g : Network) (front : List Route) (empty : Route) (P : Route → Type 0) → All P (front ++ empty ∷ []) → All P front
front_part g front empty P all = λ k d within.
    let long : k < length (front ++ empty ∷ []) = omega (arith, length-append front (empty ∷ [])) in
    subst P (get_or_append_left front (empty ∷ []) d k within) (all k d long)

-- what the routes in front have, of routes with one more behind them
module _ (g : Network) (before better : List Route) (plans : List RoutePlan) (are : AreRoutes g better) (arranged : AreArranged before better) (plans_are : ArePlansOf g (are_served better) plans) where
  all_are : AreRoutes g (arranged.front ++ arranged.empty ∷ [])
  all_are = subst (AreRoutes g) arranged.is are

  served_are : All IsServed arranged.front
  served_are = All-permutation IsServed (are_served before) arranged.front arranged.same (all_served before)

  customers_are : All (λ (r : Route). All (IsCustomer g) r.order.items) arranged.front
  customers_are = front_part g arranged.front arranged.empty (λ (r : Route). All (IsCustomer g) r.order.items) all_are.customers

  once_are : (node : ℕ) → IsCustomer g node → stands_in arranged.front node ≡ 1
  once_are node customer =
      let whole = all_are.once node customer in
      let parts = sum_by-append (times_on node) arranged.front (arranged.empty ∷ []) in
      let last = sum_by-cons (times_on node) arranged.empty [] in
      let nobody = ap (λ l. times_in l node) arranged.none in
      omega (arith, whole, parts, last, nobody)

  front_plans : ArePlansOf g arranged.front plans
  front_plans = subst (λ (l : List Route). ArePlansOf g l plans) (ap are_served arranged.is ∙ served_front arranged.front arranged.empty served_are arranged.none) plans_are

  orders_are : orders_of g plans ≡ lists_of arranged.front
  orders_are = plans_orders g arranged.front plans customers_are front_plans

  rising : IsStrictlyIncreasing (map first_or_depot (lists_of arranged.front))
  rising = firsts_rise g arranged.front served_are customers_are once_are arranged.empty arranged.order

  pub plan_is_orderly : IsNetwork g → IsOrderly g plans
  plan_is_orderly network = record {
    fleet = plans_fleet g arranged.front plans customers_are served_are once_are front_plans;
    order = subst (λ l. IsStrictlyIncreasing (map first_or_depot l)) (sym orders_are) rising;
    fastest = fastest_all g arranged.front plans customers_are front_plans;
    text = fits_file g arranged.front plans network served_are customers_are rising orders_are front_plans;
  }

  pub plan_is_improved : IsNetwork g → AreSettledTo g better (length better) → IsImproved g plans
  plan_is_improved network none_helps =
      let orderly = plan_is_orderly network in
      record {
        fleet = orderly.fleet;
        order = orderly.order;
        fastest = orderly.fastest;
        settled = subst (IsSettled g) (sym orders_are)
            (settled g arranged.front arranged.empty arranged.none arranged.no_time all_are (subst (λ (l : List Route). AreSettledTo g l (length l)) arranged.is none_helps));
        text = orderly.text;
      }

  pub plan_costs : cost_of g 1 (stops_of plans) ≡ cost_of_routes better
  plan_costs =
      let plan = plans_cost g arranged.front plans served_are (least_front g arranged.front arranged.empty arranged.none arranged.no_time all_are) front_plans in
      let front = cost_all g arranged.front arranged.empty arranged.none arranged.no_time in
      let same = ap cost_of_routes arranged.is in
      omega (arith, plan, front, same)

-- a plan in order that no move makes cheaper unless a clock ended the moves
pub moved_unless : (g : Network) (ended : Bool) (plans : List RoutePlan) → IsOrderly g plans → (ended ≡ false → IsImproved g plans) → IsMoved g ended plans
moved_unless g false plans orderly improved = improved refl
moved_unless g true plans orderly improved = orderly

-- where the clock didn't end the moves, an answer as ever
pub answer_of : (g : Network) (from : Option (List RoutePlan)) (found : Improved) → IsTimedAnswer g false from found → IsAnswer g from found
answer_of g from (Plan plan) is = is
answer_of g from (Alone node) is = is

orderly_of : (g : Network) (plans : List RoutePlan) → IsImproved g plans → IsOrderly g plans
orderly_of g plans is = record { fleet = is.fleet; order = is.order; fastest = is.fastest; text = is.text }

-- in any case it is a plan in order
pub moved_orderly : (g : Network) (ended : Bool) (plans : List RoutePlan) → IsMoved g ended plans → IsOrderly g plans
moved_orderly g false plans is = orderly_of g plans is
moved_orderly g true plans is = is
