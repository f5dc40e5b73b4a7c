-- Routes of which one or two have other orders of the same customers.
use Rattle.std.proofs.Common.{◌≡◌, ◌≢◌, ◌∙◌, ℕ, ◌+◌, ◌<◌, ◌≤◌, List, [], Option, None, Some, length, get_or, set, refl, sym, ap, subst, arith}
use Rattle.std.specs.Prelude.{MatchOption}
use Rattle.std.specs.List.{All}
use Rattle.std.proofs.lemmas.List.{get_or-map, get_or-set_other, get_or-set_same, length-map, length-set, map-set}
use Rattle.std.proofs.lemmas.List.Elements.{All-set}
use Rattle.std.proofs.lemmas.List.Sums.{get_or-le-sum_by, sum_by-set}
use Rattle.ev_model.specs.Fleet.{times_in}
use Rattle.ev_model.specs.Network.{Network}
use Rattle.index_links.specs.Lists.{list_at}
use Rattle.plan_check.specs.FleetRules.{IsCustomer}
use Rattle.order_pricing.specs.Orders.{IsLeastTime, IsOrder}
use Rattle.route_improve.specs.Orders.{AreLeastTimes}
use Rattle.order_pricing.specs.Pricing.{AreLess, AreNoLess}
use Rattle.route_improve.specs.Routes.{AreCheaper, AreNoCheaper, AreRoutes, lists_of, stands_in}
use Rattle.route_improve.specs.Taking.{AreOfPair, AreOfRoute}
use Rattle.route_improve.specs.declared.route.Route.{Route}
use Rattle.route_improve.proofs.Prices.{TakesLeast, least_at, priced}

abbrev time_of_route : Route → ℕ
time_of_route r = r.time

abbrev times_on : ℕ → Route → ℕ
times_on node r = times_in r.order.items node

abbrev HasCustomers : Network → Route → Type 0
HasCustomers g r = All (IsCustomer g) r.order.items

pub list_is : (routes : List Route) (a : ℕ) (d : Route) → a < length routes → list_at (lists_of routes) a ≡ (get_or routes a d).order.items
list_is routes a d within = get_or-map (λ (r : Route). r.order.items) routes a d [] within

-- ---- one route

stands_one : (routes : List Route) (a : ℕ) (new : Route) (node : ℕ) → a < length routes → times_in new.order.items node ≡ times_in (list_at (lists_of routes) a) node
    → stands_in (set routes a new) node ≡ stands_in routes node
stands_one routes a new node within same =
    let change = sum_by-set (times_on node) routes a new new within in
    let list = ap (λ l. times_in l node) (list_is routes a new within) in
    omega (arith, change, list, same)

pub one_taken : (g : Network) (routes : List Route) (a : ℕ) (new d : Route) → AreRoutes g routes → a < length routes → AreOfRoute g routes a new.order.items
    → IsLeastTime g new.order.items new.time → new.time < (get_or routes a d).time → AreCheaper g routes (set routes a new)
one_taken g routes a new d are within of least less =
    let change = sum_by-set time_of_route routes a new d within in
    record {
      routes = record {
        least = All-set (TakesLeast g) routes a new least are.least;
        customers = All-set (HasCustomers g) routes a new of.customers are.customers;
        once = λ node is. stands_one routes a new node within (of.same node) ∙ are.once node is;
      };
      count = length-set routes a new;
      less = omega (arith, change, less);
    }

pub one_order : (g : Network) (routes : List Route) (a : ℕ) (order : List ℕ) (d : Route) → AreRoutes g routes → a < length routes → AreOfRoute g routes a order → IsOrder g order
one_order g routes a order d are within of = record {
  customers = of.customers;
  once = λ node is.
      let part = get_or-le-sum_by (times_on node) routes a d within in
      let list = ap (λ l. times_in l node) (list_is routes a d within) in
      omega (arith, part, list, of.same node, are.once node is);
}

pub one_kept : (g : Network) (routes : List Route) (a : ℕ) (d e : Route) → AreRoutes g routes → a < length routes → AreNoLess g d.order.items [] (get_or routes a e).time
    → AreNoCheaper g routes (set (lists_of routes) a d.order.items)
one_kept g routes a d e are within no_less cost have =
    let time = get_or have.times a 0 in
    let new : Route = record { order = d.order; time = time } in
    let lists : set (lists_of routes) a d.order.items ≡ lists_of (set routes a new) = sym (map-set (λ (r : Route). r.order.items) routes a new) in
    let long : a < length (lists_of routes) = rw length-map within in
    let there : a < length (set (lists_of routes) a d.order.items) = rw length-set long in
    let at : IsLeastTime g (get_or (set (lists_of routes) a d.order.items) a []) time = least_at g (set (lists_of routes) a d.order.items) have.times a have.least there in
    let here : IsLeastTime g d.order.items time = subst (λ l. IsLeastTime g l time) (get_or-set_same (lists_of routes) a d.order.items [] long) at in
    let all : All (TakesLeast g) (set routes a new) = All-set (TakesLeast g) routes a new here are.least in
    let total = priced g (set routes a new) have.times all (subst (λ l. AreLeastTimes g l have.times) lists have.least) in
    let change = sum_by-set time_of_route routes a new e within in
    let bound = no_less time 0 here refl in
    omega (arith, have.total, total, change, bound)

-- ---- two routes

stands_two : (routes : List Route) (a b : ℕ) (first second : Route) (node : ℕ) → a < length routes → b < length routes → a ≢ b
    → times_in first.order.items node + times_in second.order.items node ≡ times_in (list_at (lists_of routes) a) node + times_in (list_at (lists_of routes) b) node
    → stands_in (set (set routes a first) b second) node ≡ stands_in routes node
stands_two routes a b first second node one other apart same =
    let there : b < length (set routes a first) = rw length-set other in
    let change = sum_by-set (times_on node) routes a first first one in
    let more = sum_by-set (times_on node) (set routes a first) b second second there in
    let list = ap (λ l. times_in l node) (list_is routes a first one) in
    let next = ap (λ l. times_in l node) (list_is routes b second other) in
    let stays = ap (times_on node) (get_or-set_other routes a b first second (λ same. apart (sym same))) in
    omega (arith, change, more, list, next, stays, same)

pub pair_taken : (g : Network) (routes : List Route) (a b : ℕ) (first second d e : Route) → AreRoutes g routes → a < length routes → b < length routes → a ≢ b
    → AreOfPair g routes a b first.order.items second.order.items → AreLess g first.order.items second.order.items ((get_or routes a d).time + (get_or routes b e).time) (first.time, second.time)
    → AreCheaper g routes (set (set routes a first) b second)
pair_taken g routes a b first second d e are one other apart of less =
    let there : b < length (set routes a first) = rw length-set other in
    let change = sum_by-set time_of_route routes a first d one in
    let more = sum_by-set time_of_route (set routes a first) b second e there in
    let stays = ap time_of_route (get_or-set_other routes a b first e (λ same. apart (sym same))) in
    record {
      routes = record {
        least = All-set (TakesLeast g) (set routes a first) b second less.1 (All-set (TakesLeast g) routes a first less.0 are.least);
        customers = All-set (HasCustomers g) (set routes a first) b second of.second_customers (All-set (HasCustomers g) routes a first of.first_customers are.customers);
        once = λ node is. stands_two routes a b first second node one other apart (of.same node) ∙ are.once node is;
      };
      count = length-set (set routes a first) b second ∙ length-set routes a first;
      less = omega (arith, change, more, stays, less.2);
    }

pub pair_orders : (g : Network) (routes : List Route) (a b : ℕ) (first second : Route) → AreRoutes g routes → a < length routes → b < length routes → a ≢ b
    → AreOfPair g routes a b first.order.items second.order.items → IsOrder g first.order.items × IsOrder g second.order.items
pair_orders g routes a b first second are one other apart of = (
  record { customers = of.first_customers; once = λ node is. omega (arith, first_part node, whole node is) },
  record { customers = of.second_customers; once = λ node is. omega (arith, second_part node, whole node is) },
)
  where
    whole : (node : ℕ) → IsCustomer g node → stands_in (set (set routes a first) b second) node ≡ 1
    whole node is = stands_two routes a b first second node one other apart (of.same node) ∙ are.once node is

    first_part : (node : ℕ) → times_in first.order.items node ≤ stands_in (set (set routes a first) b second) node
    first_part node =
        let there : a < length (set (set routes a first) b second) = rw (length-set, length-set) one in
        let part = get_or-le-sum_by (times_on node) (set (set routes a first) b second) a first there in
        let at = ap (times_on node) (get_or-set_other (set routes a first) b a second first apart ∙ get_or-set_same routes a first first one) in
        omega (arith, part, at)

    second_part : (node : ℕ) → times_in second.order.items node ≤ stands_in (set (set routes a first) b second) node
    second_part node =
        let long : b < length (set routes a first) = rw length-set other in
        let there : b < length (set (set routes a first) b second) = rw length-set long in
        let part = get_or-le-sum_by (times_on node) (set (set routes a first) b second) b second there in
        let at = ap (times_on node) (get_or-set_same (set routes a first) b second second long) in
        omega (arith, part, at)

pub pair_kept : (g : Network) (routes : List Route) (a b : ℕ) (d e x y : Route) → AreRoutes g routes → a < length routes → b < length routes → a ≢ b
    → AreNoLess g d.order.items e.order.items ((get_or routes a x).time + (get_or routes b y).time) → AreNoCheaper g routes (set (set (lists_of routes) a d.order.items) b e.order.items)
pair_kept g routes a b d e x y are one other apart no_less cost have =
    let s = get_or have.times a 0 in
    let t = get_or have.times b 0 in
    let first : Route = record { order = d.order; time = s } in
    let second : Route = record { order = e.order; time = t } in
    let changed = set (set (lists_of routes) a d.order.items) b e.order.items in
    let lists : changed ≡ lists_of (set (set routes a first) b second) =
    ap (λ l. set l b e.order.items) (sym (map-set (λ (r : Route). r.order.items) routes a first)) ∙ sym (map-set (λ (r : Route). r.order.items) (set routes a first) b second) in
    let long_a : a < length (set (lists_of routes) a d.order.items) = rw (length-set, length-map) one in
    let long_b : b < length (set (lists_of routes) a d.order.items) = rw (length-set, length-map) other in
    let within_a : a < length changed = rw length-set long_a in
    let within_b : b < length changed = rw length-set long_b in
    let at_a : IsLeastTime g (get_or changed a []) s = least_at g changed have.times a have.least within_a in
    let at_b : IsLeastTime g (get_or changed b []) t = least_at g changed have.times b have.least within_b in
    let one_list : get_or changed a [] ≡ d.order.items =
    get_or-set_other (set (lists_of routes) a d.order.items) b a e.order.items [] apart ∙ get_or-set_same (lists_of routes) a d.order.items [] (rw length-map one) in
    let here : IsLeastTime g d.order.items s = subst (λ l. IsLeastTime g l s) one_list at_a in
    let next : IsLeastTime g e.order.items t = subst (λ l. IsLeastTime g l t) (get_or-set_same (set (lists_of routes) a d.order.items) b e.order.items [] long_b) at_b in
    let all : All (TakesLeast g) (set (set routes a first) b second) = All-set (TakesLeast g) (set routes a first) b second next (All-set (TakesLeast g) routes a first here are.least) in
    let total = priced g (set (set routes a first) b second) have.times all (subst (λ l. AreLeastTimes g l have.times) lists have.least) in
    let there : b < length (set routes a first) = rw length-set other in
    let change = sum_by-set time_of_route routes a first x one in
    let more = sum_by-set time_of_route (set routes a first) b second y there in
    let stays = ap time_of_route (get_or-set_other routes a b first y (λ same. apart (sym same))) in
    let bound = no_less s t here next in
    omega (arith, have.total, total, change, more, stays, bound)

-- ---- what the code takes, by what a pricer found

pub take_one_made : (g : Network) (routes : List Route) (a : ℕ) (new d : Route) (list : List ℕ) (than : ℕ) (found : Option (ℕ × ℕ)) (pair : ℕ × ℕ) → AreRoutes g routes → a < length routes → AreOfRoute g routes a new.order.items
    → d ≡ get_or routes a d → than ≡ d.time → list ≡ new.order.items → found ≡ Some pair → MatchOption found (AreNoLess g list [] than) (AreLess g list [] than) → new.time ≡ pair.0 → AreCheaper g routes (set routes a new)
take_one_made g routes a new d list than found pair are within of at was lists is tells time =
    let less : AreLess g list [] than pair = subst (λ o. MatchOption o (AreNoLess g list [] than) (AreLess g list [] than)) is tells in
    let least : IsLeastTime g new.order.items new.time = subst (λ l. IsLeastTime g l new.time) lists (subst (λ t. IsLeastTime g list t) (sym time) less.0) in
    let before = ap time_of_route at in
    one_taken g routes a new d are within of least (omega (arith, less.2, was, time, before))

pub take_one_kept : (g : Network) (routes : List Route) (a : ℕ) (new d : Route) (list : List ℕ) (than : ℕ) (found : Option (ℕ × ℕ)) → AreRoutes g routes → a < length routes
    → d ≡ get_or routes a d → than ≡ d.time → list ≡ new.order.items → found ≡ None → MatchOption found (AreNoLess g list [] than) (AreLess g list [] than) → AreNoCheaper g routes (set (lists_of routes) a new.order.items)
take_one_kept g routes a new d list than found are within at was lists is tells =
    let none : AreNoLess g list [] than = subst (λ o. MatchOption o (AreNoLess g list [] than) (AreLess g list [] than)) is tells in
    let here : AreNoLess g new.order.items [] than = subst (λ l. AreNoLess g l [] than) lists none in
    let before : than ≡ (get_or routes a d).time = was ∙ ap time_of_route at in
    one_kept g routes a new d are within (subst (λ n. AreNoLess g new.order.items [] n) before here)

pub take_pair_made : (g : Network) (routes : List Route) (a b : ℕ) (first second d e : Route) (list other : List ℕ) (than : ℕ) (found : Option (ℕ × ℕ)) (pair : ℕ × ℕ)
    → AreRoutes g routes → a < length routes → b < length routes → a ≢ b → AreOfPair g routes a b first.order.items second.order.items
    → d ≡ get_or routes a d → e ≡ get_or routes b e → than ≡ d.time + e.time → list ≡ first.order.items → other ≡ second.order.items → found ≡ Some pair
    → MatchOption found (AreNoLess g list other than) (AreLess g list other than) → first.time ≡ pair.0 → second.time ≡ pair.1 → AreCheaper g routes (set (set routes a first) b second)
take_pair_made g routes a b first second d e list other than found pair are one two apart of at there was lists others is tells time next =
    let less : AreLess g list other than pair = subst (λ o. MatchOption o (AreNoLess g list other than) (AreLess g list other than)) is tells in
    let here : IsLeastTime g first.order.items first.time = subst (λ l. IsLeastTime g l first.time) lists (subst (λ t. IsLeastTime g list t) (sym time) less.0) in
    let behind : IsLeastTime g second.order.items second.time = subst (λ l. IsLeastTime g l second.time) others (subst (λ t. IsLeastTime g other t) (sym next) less.1) in
    let before = ap time_of_route at in
    let after = ap time_of_route there in
    pair_taken g routes a b first second d e are one two apart of (here, behind, omega (arith, less.2, was, time, next, before, after))

pub take_pair_kept : (g : Network) (routes : List Route) (a b : ℕ) (first second d e : Route) (list other : List ℕ) (than : ℕ) (found : Option (ℕ × ℕ))
    → AreRoutes g routes → a < length routes → b < length routes → a ≢ b
    → d ≡ get_or routes a d → e ≡ get_or routes b e → than ≡ d.time + e.time → list ≡ first.order.items → other ≡ second.order.items → found ≡ None
    → MatchOption found (AreNoLess g list other than) (AreLess g list other than) → AreNoCheaper g routes (set (set (lists_of routes) a first.order.items) b second.order.items)
take_pair_kept g routes a b first second d e list other than found are one two apart at there was lists others is tells =
    let none : AreNoLess g list other than = subst (λ o. MatchOption o (AreNoLess g list other than) (AreLess g list other than)) is tells in
    let here : AreNoLess g first.order.items other than = subst (λ l. AreNoLess g l other than) lists none in
    let both : AreNoLess g first.order.items second.order.items than = subst (λ l. AreNoLess g first.order.items l than) others here in
    let before = ap time_of_route at in
    let after = ap time_of_route there in
    let sum : than ≡ (get_or routes a d).time + (get_or routes b e).time = omega (arith, was, before, after) in
    pair_kept g routes a b first second d e are one two apart (subst (λ n. AreNoLess g first.order.items second.order.items n) sum both)
