-- Each route of a fleet plan is a near route, if it is whole; so the fleet plan costs at least the price sum.
use Rattle.std.proofs.Common.{◌≡◌, ◌≢◌, ◌∙◌, ℕ, zero, suc, ◌+◌, ◌*◌, ◌<◌, ◌≤◌, true, false, refl, sym, ap, subst, List, [], ◌∷◌, length, map, arith, inl, inr, pos}
use Rattle.std.specs.Prelude.{nat_eq, if◌then◌else◌, slice_index}
use Rattle.std.specs.List.{All, AllByRecursion, IsDistinct, list_any}
use Rattle.std.proofs.Math.Nat.{mul-le-mul_left}
use Rattle.std.proofs.lemmas.Bool.{cases_eq, eqb-true, false≢true, ne_eqb, or_cases}
use Rattle.std.proofs.lemmas.Int.{ints}
use Rattle.std.proofs.lemmas.List.{length-map, map-append}
use Rattle.std.proofs.lemmas.List.Elements.{All-head, All-tail}
use Rattle.std.proofs.lemmas.List.Sums.{sum_by-append, sum_by-cons}
use Rattle.std.proofs.lemmas.Map.Steps.{length-le_from_distinct_below}
use Rattle.customer_sets.specs.CustSet.{has, IsWithin}
use Rattle.ev_model.specs.Feasible.{IsFeasible}
use Rattle.ev_model.specs.Fleet.{all_customers, cost_of, customers_of, IsFleetPlan, ServesOnly, times_in}
use Rattle.ev_model.specs.Network.{is_customer, IsNetwork, Network, node_count}
use Rattle.ev_model.specs.Route.{route_of}
use Rattle.ev_model.specs.Time.{time_of}
use Rattle.ev_model.specs.declared.Stop.{Stop}
use Rattle.fleet_model.specs.Places.{customer_count, customer_number, numbers_of}
use Rattle.fleet_model.specs.Prices.{price_of as integer_price, price_sum, price_total as integer_total}
use Rattle.fleet_model.specs.Whole.{NoFractionIsFaster}
use Rattle.fleet_model.proofs.Counts.{AreCustomers, AreNew, number_less, numbers_once, once_is_new, times_append}
use Rattle.fleet_model.proofs.Fleets.{all_below, all_filtered, plan_below, served_once}
use Rattle.fleet_model.proofs.Plans.{filtered}
use Rattle.fleet_model.proofs.Sets.{new_within, within_more}
use Rattle.fleet_model.proofs.Weighed.{AreBelow, sum_to, sum_to_all, sum_weighed, weighed_once}
use Rattle.fleet_model.proofs.WholeFleets.{same_customers, whole_only}
use Rattle.rounding_law.proofs.Whole.{no_fraction_is_faster}
use Rattle.near_proof.specs.Routes.{IsNearRoute, KeepsMemory}
use Rattle.near_proof.specs.Terms.{earned_by, near_set, price_of, price_total, remembered, Terms}
use Rattle.near_proof.specs.Truth.{NearRoutesPay}
use Rattle.near_proof.proofs.Memories.{filtered_has}

-- who was not served yet isn't remembered
kept_before : (sets : List (List ℕ)) (memory before : List ℕ) (c : ℕ) → IsWithin memory before → IsWithin (remembered sets memory c) (c ∷ before)
kept_before sets memory before c within =
    within_more c _ before (λ x is. within x (filtered_has (has (near_set sets c)) memory x is).0)

keeps_new : (sets : List (List ℕ)) (memory before cs : List ℕ) → IsWithin memory before → AreNew before cs → KeepsMemory sets memory cs
keeps_new sets memory before [] within new = tt
keeps_new sets memory before (c ∷ cs) within new =
    (new_within c memory before within new.0, keeps_new sets (remembered sets memory c) (c ∷ before) cs (kept_before sets memory before c within) new.1)

-- numbers that stand once differ, and customers' numbers are below their count
apart_from : (x : ℕ) (xs : List ℕ) → times_in xs x ≡ 0 → AllByRecursion (λ y. nat_eq x y ≡ false) xs
apart_from x [] none = tt
apart_from x (y ∷ ys) none = elim (cases_eq y x) [
  | inl same ↦ absurd (let found : (if nat_eq x x then 1 else 0) + times_in ys x ≡ 0 = subst (λ z. (if nat_eq z x then 1 else 0) + times_in ys x ≡ 0) same none in grind (arith, found))
  | inr other ↦ (ne_eqb x y (λ e. other (sym e)), apart_from x ys (omega (arith, none)))
]

distinct : (xs : List ℕ) → ((c : ℕ) → times_in xs c ≤ 1) → IsDistinct nat_eq xs
unfolding IsDistinct
distinct [] once = tt
distinct (x ∷ xs) once =
    let here = once x in
    let none : times_in xs x ≡ 0 = grind (arith, here) in
    (apart_from x xs none, distinct xs (λ c. omega (arith, once c)))

numbers_below : (g : Network) (xs : List ℕ) (q : ℕ) → AreCustomers g xs → AreBelow (node_count g) xs → list_any (nat_eq q) (map (customer_number g) xs) ≡ true → q < customer_count g
numbers_below g [] q are below is = absurd (false≢true is)
numbers_below g (x ∷ xs) q are below is = elim (or_cases (nat_eq q (customer_number g x)) (list_any (nat_eq q) (map (customer_number g) xs)) is) [
  | inl same ↦ omega (arith, eqb-true q (customer_number g x) same, number_less g x (node_count g) are.0 below.0)
  | inr later ↦ numbers_below g xs q are.1 below.1 later
]

few_customers : (g : Network) (xs : List ℕ) → AreCustomers g xs → AreBelow (node_count g) xs → ((c : ℕ) → times_in (map (customer_number g) xs) c ≤ 1) → length xs ≤ customer_count g
few_customers g xs are below once =
    let all = length-le_from_distinct_below (map (customer_number g) xs) (customer_count g) (distinct (map (customer_number g) xs) once) (λ q. numbers_below g xs q are below) in
    omega (arith, all, length-map xs (customer_number g))

-- a route that serves nobody twice is a near route, whatever the near sets are
pub near_route : (g : Network) (sets : List (List ℕ)) (plan : List Stop) → IsFeasible g 1 g.capacity plan → ServesOnly g plan → customers_of g plan ≢ [] → ((x : ℕ) → is_customer g x ≡ true → times_in (customers_of g plan) x ≤ 1) → IsNearRoute g sets plan
near_route g sets plan feasible only some once =
    let are = filtered g (route_of plan) in
    let numbers = numbers_once g (customers_of g plan) are once in
    record {
      feasible = feasible;
      only = only;
      some = some;
      few = few_customers g (customers_of g plan) are (plan_below g 1 g.capacity plan feasible) numbers;
      keeps = keeps_new sets [] [] (numbers_of g plan) (λ c is. is) (once_is_new [] (numbers_of g plan) (λ c. omega (arith, numbers c)));
    }

whole_is_no_slower : (g : Network) → IsNetwork g → NoFractionIsFaster g
whole_is_no_slower g network k plan feasible =
    let found = no_fraction_is_faster g (route_of plan) k g.capacity plan network feasible refl in
    record { whole = found.0; feasible = found.1; follows = found.2; no_slower = found.3 }

-- k times what a route earns is no more than what it takes in kths
scaled : (k w e t u : ℕ) → e ≤ w * t → k * t ≤ u → k * e ≤ w * u
scaled k w e t u pays slower =
    let first : k * e ≤ k * (w * t) = mul-le-mul_left k pays in
    let second : w * (k * t) ≤ w * u = mul-le-mul_left w slower in
    omega (arith, first, second)

joined : (k w a b t u : ℕ) → k * a ≤ w * t → k * b ≤ w * u → k * (a + b) ≤ w * (t + u)
joined k w a b t u first second = omega (arith, first, second)

module _ (g : Network) (t : Terms) (network : IsNetwork g) (pay : NearRoutesPay g t) where
  plan_pays : (k : ℕ) (plan : List Stop) → IsFeasible g k g.capacity plan → ServesOnly g plan → customers_of g plan ≢ [] → ((x : ℕ) → is_customer g x ≡ true → times_in (customers_of g plan) x ≤ 1)
      → k * earned_by t.prices (numbers_of g plan) ≤ t.weight * time_of g k g.capacity plan
  plan_pays k plan feasible only some once =
      let has = whole_is_no_slower g network k plan feasible in
      let same = same_customers g k plan has in
      let once_whole : (x : ℕ) → is_customer g x ≡ true → times_in (customers_of g has.whole) x ≤ 1 = λ x is. rw same (once x is) in
      let route = near_route g t.sets has.whole has.feasible (whole_only g k plan has only) (λ none. some (sym same ∙ none)) once_whole in
      let earns : earned_by t.prices (numbers_of g plan) ≤ t.weight * time_of g 1 g.capacity has.whole =
      subst (λ cs. earned_by t.prices (map (customer_number g) cs) ≤ t.weight * time_of g 1 g.capacity has.whole) same (pay has.whole route) in
      scaled k t.weight (earned_by t.prices (numbers_of g plan)) (time_of g 1 g.capacity has.whole) (time_of g k g.capacity plan) earns has.no_slower

  fleet_takes : (k : ℕ) (plans : List (List Stop)) → All (IsFeasible g k g.capacity) plans → All (λ stops. customers_of g stops ≢ []) plans → All (ServesOnly g) plans
      → ((x : ℕ) → is_customer g x ≡ true → times_in (all_customers g plans) x ≤ 1) → k * earned_by t.prices (map (customer_number g) (all_customers g plans)) ≤ t.weight * cost_of g k plans
  fleet_takes k [] feasible some only once = omega arith
  fleet_takes k (p ∷ ps) feasible some only once =
      let each = λ (x : ℕ). times_append (customers_of g p) (all_customers g ps) x in
      let first = plan_pays k p (All-head (IsFeasible g k g.capacity) p ps feasible) (All-head (ServesOnly g) p ps only) (All-head (λ stops. customers_of g stops ≢ []) p ps some) (λ x is. omega (arith, each x, once x is)) in
      let rest = fleet_takes k ps (All-tail (IsFeasible g k g.capacity) p ps feasible) (All-tail (λ stops. customers_of g stops ≢ []) p ps some) (All-tail (ServesOnly g) p ps only) (λ x is. omega (arith, each x, once x is)) in
      let parts = map-append (customer_number g) (customers_of g p) (all_customers g ps) in
      let sums = sum_by-append (price_of t.prices) (numbers_of g p) (map (customer_number g) (all_customers g ps)) in
      rw (parts, sums) (joined k t.weight (earned_by t.prices (numbers_of g p)) (earned_by t.prices (map (customer_number g) (all_customers g ps))) (time_of g k g.capacity p) (cost_of g k ps) first rest)

-- price sums of naturals among those of integers
price_is : (prices : List ℕ) (c : ℕ) → pos (slice_index prices c) ≡ integer_price (map pos prices) c
price_is [] c = refl
price_is (price ∷ prices) zero = refl
price_is (price ∷ prices) (suc c) = price_is prices c

earned_is : (prices : List ℕ) (cs : List ℕ) → price_sum (map pos prices) cs ≡ pos (earned_by prices cs)
earned_is prices [] = refl
earned_is prices (c ∷ cs) =
    let rest = earned_is prices cs in
    let first = price_is prices c in
    let more = sum_by-cons (price_of prices) c cs in
    omega (arith, ints, rest, first, more)

total_is : (prices : List ℕ) → integer_total (map pos prices) ≡ pos (price_total prices)
total_is [] = refl
total_is (price ∷ prices) =
    let rest = total_is prices in
    let more = sum_by-cons (λ (p : ℕ). p) price prices in
    omega (arith, ints, rest, more)

-- customers that are served once each earn the sum of all prices
all_once : (g : Network) (prices : List ℕ) (k : ℕ) (plans : List (List Stop)) → length prices ≡ customer_count g → IsFleetPlan g k plans → earned_by prices (map (customer_number g) (all_customers g plans)) ≡ price_total prices
all_once g prices k plans one_price fleet =
    let listed = map pos prices in
    let count : length listed ≡ customer_count g = length-map prices pos ∙ one_price in
    let sum = sum_weighed g listed (all_customers g plans) (node_count g) (all_filtered g plans) (all_below g k plans fleet.feasible) ∙ weighed_once g listed (all_customers g plans) (node_count g) fleet.once in
    let all : sum_to listed (customer_count g) ≡ integer_total listed = ap (λ n. sum_to listed n) (sym count) ∙ sum_to_all listed in
    let whole : price_sum listed (map (customer_number g) (all_customers g plans)) ≡ integer_total listed = sum ∙ all in
    omega (arith, ints, whole, earned_is prices (map (customer_number g) (all_customers g plans)), total_is prices)

pub fleet_pays : (g : Network) (t : Terms) (k : ℕ) (plans : List (List Stop)) → IsNetwork g → NearRoutesPay g t → length t.prices ≡ customer_count g → IsFleetPlan g k plans → k * price_total t.prices ≤ t.weight * cost_of g k plans
fleet_pays g t k plans network pay one_price fleet =
    let takes = fleet_takes g t network pay k plans fleet.feasible fleet.some fleet.only (served_once g k plans fleet) in
    let all = all_once g t.prices k plans one_price fleet in
    rw all at takes

-- a fleet plan with a customer has a plan, so that its amounts are in some kths
pub some_kths : (g : Network) (t : Terms) (k : ℕ) (plans : List (List Stop)) → length t.prices ≡ customer_count g → IsFleetPlan g k plans → 0 < price_total t.prices → 1 ≤ k
some_kths g t k [] one_price fleet some =
    let none : 0 ≡ price_total t.prices = all_once g t.prices k [] one_price fleet in
    absurd (omega (arith, none, some))
some_kths g t k ([] ∷ ps) one_price fleet some = absurd (All-head (IsFeasible g k g.capacity) [] ps fleet.feasible).plan
some_kths g t k ((first ∷ stops) ∷ ps) one_price fleet some = (All-head (IsFeasible g k g.capacity) (first ∷ stops) ps fleet.feasible).plan.0
