-- Routes for customers alone.
use Rattle.std.proofs.Common.{◌≡◌, ◌∙◌, ℕ, zero, suc, ◌+◌, ◌<◌, ◌≤◌, Bool, true, filter, List, [], ◌∷◌, ◌++◌, Option, None, length, map, take, refl, sym, ap, subst, arith, inl, inr}
use Rattle.std.specs.Prelude.{nat_eq, slice_index, if◌then◌else◌}
use Rattle.std.specs.List.{All, range_with_len}
use Rattle.std.specs.List.Sorted.{IsStrictlyIncreasing}
use Rattle.std.proofs.lemmas.Bool.{cases_Bool, cases_eq, cases_lt, ne_eqb}
use Rattle.std.proofs.lemmas.List.{get_or-take, length-take, take_more}
use Rattle.std.proofs.lemmas.List.Elements.{All-cons, All-get_or, All-head, All-nil, All-tail}
use Rattle.std.proofs.lemmas.List.Kept.{AllPairs-from_increasing}
use Rattle.std.proofs.lemmas.List.Sums.{sum_by-cons}
use Rattle.ev_model.specs.Fleet.{times_in}
use Rattle.ev_model.specs.Network.{Network, is_customer, node_count}
use Rattle.instance_reader.specs.Instance.{customer_nodes}
use Rattle.plan_check.proofs.CustomersOnce.{customer_once}
use Rattle.plan_check.specs.FleetRules.{IsCustomer}
use Rattle.order_pricing.specs.Orders.{IsLeastTime}
use Rattle.route_improve.specs.Improved.{CostsNoMoreThanOwn, HasNoOwn, IsFirstAlone}
use Rattle.route_improve.specs.Orders.{AreLeastTimes}
use Rattle.route_improve.specs.Own.{AreOwn, IsOwn, IsOwnOrAlone}
use Rattle.route_improve.specs.Routes.{AreRoutes, cost_of_routes, lists_of, stands_in}
use Rattle.route_improve.specs.declared.route.Route.{Route}
use Rattle.route_improve.proofs.Prices.{TakesLeast, priced}

-- ---- one customer more

own_push : (g : Network) (nodes : List ℕ) (rs : List Route) (node : ℕ) (r : Route) → AreOwn g nodes rs → IsOwn g node r → AreOwn g (nodes ++ node ∷ []) (rs ++ r ∷ [])
own_push g [] [] node r are is = (is, tt)
own_push g [] (s ∷ rs) node r are is = absurd are
own_push g (n ∷ nodes) [] node r are is = absurd are
own_push g (n ∷ nodes) (s ∷ rs) node r are is = (are.0, own_push g nodes rs node r are.1 is)

pub own_more : (g : Network) (nodes : List ℕ) (rs : List Route) (k : ℕ) (r : Route) → k < length nodes → AreOwn g (take k nodes) rs → IsOwn g (slice_index nodes k) r → AreOwn g (take (k + 1) nodes) (rs ++ r ∷ [])
own_more g nodes rs k r within are is =
    subst (λ l. AreOwn g l (rs ++ r ∷ [])) (sym (take_more nodes k 0 within)) (own_push g (take k nodes) rs (slice_index nodes k) r are is)

-- ---- who has a route of his own

has_own : (g : Network) (node : ℕ) (r : Route) → IsOwn g node r → HasNoOwn g node → ⊥
has_own g node r is none =
    let least : IsLeastTime g (node ∷ []) r.time = subst (λ l. IsLeastTime g l r.time) is.order is.least in
    none 1 least.0 least.1.feasible least.1.follows

own_at : (g : Network) (nodes : List ℕ) (rs : List Route) (k : ℕ) → AreOwn g nodes rs → k < length nodes → HasNoOwn g (slice_index nodes k) → ⊥
own_at g [] rs k are within none = omega (arith, within)
own_at g (n ∷ nodes) [] k are within none = are
own_at g (n ∷ nodes) (r ∷ rs) zero are within none = has_own g n r are.0 none
own_at g (n ∷ nodes) (r ∷ rs) (suc k) are within none = own_at g nodes rs k are.1 (omega (arith, within)) none

place_of : (xs : List ℕ) (x : ℕ) → 1 ≤ times_in xs x → (k : ℕ) × (k < length xs) × (slice_index xs k ≡ x)
place_of [] x some = absurd (omega (arith, some))
place_of (y ∷ ys) x some = elim (cases_eq y x) [
  | inl same ↦ (zero, omega arith, same)
  | inr apart ↦
      let later : 1 ≤ times_in ys x = (let at : 1 ≤ (if nat_eq y x then 1 else 0) + times_in ys x = some in let out : 1 ≤ 0 + times_in ys x = rw (ne_eqb y x apart) at at in omega (arith, out)) in
      let rest = place_of ys x later in
      (suc rest.0, omega (arith, rest.1), rest.2)
]

place_of_customer : (g : Network) (node : ℕ) → IsCustomer g node → (k : ℕ) × (k < length (customer_nodes g)) × (slice_index (customer_nodes g) k ≡ node)
place_of_customer g node is = place_of (customer_nodes g) node (omega (arith, customer_once g node is))

pub each_own : (g : Network) (rs : List Route) → AreOwn g (customer_nodes g) rs → (node : ℕ) → IsCustomer g node → HasNoOwn g node → ⊥
each_own g rs are node is none =
    let at = place_of_customer g node is in
    own_at g (customer_nodes g) rs at.0 are at.1 (subst (HasNoOwn g) (sym at.2) none)

pub first_alone : (g : Network) (nodes : List ℕ) (rs : List Route) (k : ℕ) (found : Option Route) → nodes ≡ customer_nodes g → IsStrictlyIncreasing nodes → All (λ node. node < node_count g) nodes → All (λ node. is_customer g node ≡ true) nodes
    → k < length nodes → AreOwn g (take k nodes) rs → found ≡ None → IsOwnOrAlone g (slice_index nodes k) found → IsFirstAlone g (slice_index nodes k)
first_alone g nodes rs k found same rising known customers within are is tells = record {
  customer = (All-get_or (λ node. node < node_count g) nodes k 0 within known, All-get_or (λ node. is_customer g node ≡ true) nodes k 0 within customers);
  none = subst (IsOwnOrAlone g (slice_index nodes k)) is tells;
  first = λ other customer less lacks.
      let at = place_of_customer g other customer in
      let inside : at.0 < length nodes = subst (λ l. at.0 < length l) (sym same) at.1 in
      let value : slice_index nodes at.0 ≡ other = subst (λ l. slice_index l at.0 ≡ other) (sym same) at.2 in
      elim (cases_lt at.0 k) [
        | inl before ↦
            let short : at.0 < length (take k nodes) = omega (arith, before, within, length-take k nodes) in
            let here : slice_index (take k nodes) at.0 ≡ other = get_or-take k nodes at.0 0 before ∙ value in
            own_at g (take k nodes) rs at.0 are short (subst (HasNoOwn g) (sym here) lacks)
        | inr behind ↦ elim (cases_eq at.0 k) [
          | inl same ↦
              let equal = ap (slice_index nodes) same in
              omega (arith, less, value, equal)
          | inr apart ↦
              let rises = AllPairs-from_increasing nodes rising k at.0 0 (omega (arith, behind, apart)) inside in
              omega (arith, rises, less, value)
        ]
      ];
}

nodes_are : (q : ℕ → Bool) (most a n : ℕ) → a + n ≤ most → All (λ node. (node < most) × (q node ≡ true)) (filter q (range_with_len a n))
nodes_are q most a zero fits = All-nil (λ node. (node < most) × (q node ≡ true))
nodes_are q most a (suc n) fits =
    let rest = nodes_are q most (a + 1) n (omega (arith, fits)) in
    elim (cases_Bool (q a)) [
      | inl here ↦ rw here (All-cons (λ node. (node < most) × (q node ≡ true)) a (filter q (range_with_len (a + 1) n)) (omega (arith, fits), here) rest)
      | inr out ↦ rw out rest
    ]

-- ---- the routes

own_least : (g : Network) (nodes : List ℕ) (rs : List Route) → AreOwn g nodes rs → All (TakesLeast g) rs
own_least g [] [] are = All-nil (TakesLeast g)
own_least g [] (r ∷ rs) are = absurd are
own_least g (n ∷ nodes) [] are = absurd are
own_least g (n ∷ nodes) (r ∷ rs) are = All-cons (TakesLeast g) r rs are.0.least (own_least g nodes rs are.1)

own_customers : (g : Network) (nodes : List ℕ) (rs : List Route) → All (IsCustomer g) nodes → AreOwn g nodes rs → All (λ (r : Route). All (IsCustomer g) r.order.items) rs
own_customers g [] [] all are = All-nil (λ (r : Route). All (IsCustomer g) r.order.items)
own_customers g [] (r ∷ rs) all are = absurd are
own_customers g (n ∷ nodes) [] all are = absurd are
own_customers g (n ∷ nodes) (r ∷ rs) all are =
    let here : All (IsCustomer g) (n ∷ []) = All-cons (IsCustomer g) n [] (All-head (IsCustomer g) n nodes all) (All-nil (IsCustomer g)) in
    All-cons (λ (r : Route). All (IsCustomer g) r.order.items) r rs (subst (All (IsCustomer g)) (sym are.0.order) here) (own_customers g nodes rs (All-tail (IsCustomer g) n nodes all) are.1)

own_once : (g : Network) (nodes : List ℕ) (rs : List Route) (node : ℕ) → AreOwn g nodes rs → stands_in rs node ≡ times_in nodes node
own_once g [] [] node are = refl
own_once g [] (r ∷ rs) node are = absurd are
own_once g (n ∷ nodes) [] node are = absurd are
own_once g (n ∷ nodes) (r ∷ rs) node are =
    let here = ap (λ l. times_in l node) are.0.order in
    omega (arith, here, own_once g nodes rs node are.1, sum_by-cons (λ (q : Route). times_in q.order.items node) r rs)

own_lists : (g : Network) (nodes : List ℕ) (rs : List Route) → AreOwn g nodes rs → lists_of rs ≡ map (λ node. node ∷ []) nodes
own_lists g [] [] are = refl
own_lists g [] (r ∷ rs) are = absurd are
own_lists g (n ∷ nodes) [] are = absurd are
own_lists g (n ∷ nodes) (r ∷ rs) are = rw (are.0.order, own_lists g nodes rs are.1) refl

customers_are : (g : Network) → All (IsCustomer g) (customer_nodes g)
customers_are g = nodes_are (is_customer g) (node_count g) 0 (node_count g) (omega arith)

pub own_routes_are : (g : Network) (rs : List Route) → AreOwn g (customer_nodes g) rs → AreRoutes g rs
own_routes_are g rs are = record {
  least = own_least g (customer_nodes g) rs are;
  customers = own_customers g (customer_nodes g) rs (customers_are g) are;
  once = λ node is. own_once g (customer_nodes g) rs node are ∙ customer_once g node is;
}

pub own_costs : (g : Network) (rs : List Route) (cost : ℕ) → AreOwn g (customer_nodes g) rs → cost ≤ cost_of_routes rs → CostsNoMoreThanOwn g cost
own_costs g rs cost are no_more = record {
  each = each_own g rs are;
  no_more = λ own_cost have.
      let lists = own_lists g (customer_nodes g) rs are in
      let times = priced g rs have.times (own_least g (customer_nodes g) rs are) (subst (λ l. AreLeastTimes g l have.times) (sym lists) have.least) in
      omega (arith, times, have.total, no_more);
}
