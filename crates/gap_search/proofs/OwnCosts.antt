-- What routes for the customers alone cost.
use Rattle.std.proofs.Common.{◌≡◌, ℕ, ◌+◌, ◌<◌, ◌≤◌, List, [], ◌∷◌, None, drop, length, map, sum, arith, inl, inr, subst, sym}
use Rattle.std.specs.Prelude.{nat_eq, slice_index, if◌then◌else◌}
use Rattle.std.proofs.lemmas.Bool.{cases_eq, ne_eqb}
use Rattle.std.proofs.lemmas.List.{drop_more}
use Rattle.std.proofs.lemmas.List.Sums.{sum_by-cons}
use Rattle.ev_model.specs.Fleet.{times_in}
use Rattle.ev_model.specs.Network.{Network}
use Rattle.instance_reader.specs.Instance.{customer_nodes}
use Rattle.order_pricing.specs.Orders.{IsLeastTime}
use Rattle.order_pricing.specs.Pricing.{HasNoTime}
use Rattle.plan_check.proofs.CustomersOnce.{customer_once}
use Rattle.route_improve.proofs.Prices.{least_once}
use Rattle.route_improve.specs.Improved.{HasNoOwn, IsFirstAlone}
use Rattle.route_improve.specs.Orders.{AreLeastTimes}
use Rattle.gap_search.specs.Gap.{IsNoDearer, IsNoMoreThanOwn}

-- the first customer's time is taken off
one_more : (g : Network) (node : ℕ) (nodes : List ℕ) (cost left time : ℕ) → IsLeastTime g (node ∷ []) time → cost ≤ left + time → IsNoMoreThanOwn g nodes left → IsNoMoreThanOwn g (node ∷ nodes) cost
one_more g node nodes cost left time least within rest [] are = absurd are
one_more g node nodes cost left time least within rest (t ∷ ts) are =
    let here : t ≡ time = least_once g (node ∷ []) t time are.0 least in
    let later : left ≤ sum ts = rest ts are.1 in
    omega (arith, here, later, within, sum_by-cons (λ x. x) t ts)

-- a customer without a route of his own
none_own : (g : Network) (node : ℕ) (nodes : List ℕ) (cost : ℕ) → HasNoTime g (node ∷ []) → IsNoMoreThanOwn g (node ∷ nodes) cost
none_own g node nodes cost lacks [] are = absurd are
none_own g node nodes cost lacks (t ∷ ts) are = absurd (lacks.none 1 are.0.0 are.0.1.feasible are.0.1.follows)

pub no_dearer_than_own : (g : Network) (cost : ℕ) → IsNoMoreThanOwn g (customer_nodes g) cost → IsNoDearer g None cost
no_dearer_than_own g cost no_more = λ own_cost have.
    let le = no_more have.times have.least in
    omega (arith, le, have.total)

-- the time of the customer at place k is taken off what is left
pub taken_off : (g : Network) (nodes : List ℕ) (k before left time : ℕ) → k < length nodes → IsLeastTime g (slice_index nodes k ∷ []) time → before ≤ left + time → IsNoMoreThanOwn g (drop (k + 1) nodes) left → IsNoMoreThanOwn g (drop k nodes) before
taken_off g nodes k before left time within least less rest =
    subst (λ l. IsNoMoreThanOwn g l before) (sym (drop_more nodes k 0 within)) (one_more g (slice_index nodes k) (drop (k + 1) nodes) before left time least less rest)

-- the customer at place k has no route of his own
pub nothing_owned : (g : Network) (nodes : List ℕ) (k before : ℕ) → k < length nodes → HasNoTime g (slice_index nodes k ∷ []) → IsNoMoreThanOwn g (drop k nodes) before
nothing_owned g nodes k before within lacks =
    subst (λ l. IsNoMoreThanOwn g l before) (sym (drop_more nodes k 0 within)) (none_own g (slice_index nodes k) (drop (k + 1) nodes) before lacks)

-- nothing is left
pub nothing_left : (g : Network) (nodes : List ℕ) (left : ℕ) → left ≡ 0 → IsNoMoreThanOwn g nodes left
nothing_left g nodes left none times are = omega (arith, none)

-- where some customer has no route of his own, routes for the customers alone have no least times
own_lacks : (g : Network) (node : ℕ) (nodes times : List ℕ) → 1 ≤ times_in nodes node → HasNoOwn g node → AreLeastTimes g (map (λ n. n ∷ []) nodes) times → ⊥
own_lacks g node [] times some none are = absurd (omega (arith, some))
own_lacks g node (n ∷ nodes) [] some none are = are
own_lacks g node (n ∷ nodes) (t ∷ ts) some none are = elim (cases_eq n node) [
  | inl same ↦
      let least : IsLeastTime g (node ∷ []) t = subst (λ k. IsLeastTime g (k ∷ []) t) same are.0 in
      none 1 least.0 least.1.feasible least.1.follows
  | inr apart ↦
      let later : 1 ≤ times_in nodes node = (let at : 1 ≤ (if nat_eq n node then 1 else 0) + times_in nodes node = some in let out : 1 ≤ 0 + times_in nodes node = rw (ne_eqb n node apart) at at in omega (arith, out)) in
      own_lacks g node nodes ts later none are.1
]

-- so no cost is more than theirs
pub no_dearer_alone : (g : Network) (node cost : ℕ) → IsFirstAlone g node → IsNoDearer g None cost
no_dearer_alone g node cost is = λ own_cost have.
    absurd (own_lacks g node (customer_nodes g) have.times (omega (arith, customer_once g node is.customer)) is.none have.least)
