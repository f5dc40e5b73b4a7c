-- How often customers stand in plans, and the sets that tell it.
use Rattle.std.proofs.Common.{◌≡◌, ◌∙◌, ℕ, suc, ◌+◌, ◌<◌, Bool, true, false, not, List, [], ◌∷◌, ◌++◌, Option, Some, length, drop, map, take, get_or, min, set, slice_get, nat_eq, nat_lt, refl, subst, sym, ap, arith, inl, inr, append_assoc, if◌then◌else◌}
use Rattle.std.specs.Prelude.{slice_index}
use Rattle.std.specs.List.{AllPairs, find, range_with_len}
use Rattle.std.proofs.lemmas.Bool.{cases_eq, cases_order, eq-eqb, ne_eqb}
use Rattle.std.proofs.lemmas.Bool.Decides.{nat_tests}
use Rattle.std.proofs.lemmas.List.{append-nil, at_drop_more, get_or-set_other, get_or-set_same, map-append, take_more}
use Rattle.std.proofs.lemmas.List.FromFn.{get_or-range_with_len, length-range_with_len}
use Rattle.std.proofs.lemmas.List.Kept.{AllPairs-filter, AllPairs-from_increasing}
use Rattle.std.proofs.lemmas.Option.{get_or_from_slice_get, same_Some, slice_get_within}
use Rattle.ev_model.specs.Fleet.{all_customers, customers_of, times_in}
use Rattle.ev_model.specs.Network.{Network, is_customer, node_count}
use Rattle.ev_model.specs.declared.Stop.{Stop}
use Rattle.instance_reader.specs.Instance.{customer_nodes}
use Rattle.route_plan.specs.declared.plan.RoutePlan.{RoutePlan}
use Rattle.plan_check.specs.FirstFaults.{first_twice, first_unserved}
use Rattle.plan_check.specs.FleetRules.{stops_of, times_served}
use Rattle.plan_check.specs.LaterRules.{plans_by}
use Rattle.plan_check.specs.Tallies.{Tallies, first_again, first_missed}

pub times_in-append : (xs ys : List ℕ) (x : ℕ) → times_in (xs ++ ys) x ≡ times_in xs x + times_in ys x
times_in-append [] ys x = omega arith
times_in-append (y ∷ xs) ys x = omega (arith, times_in-append xs ys x)

all_customers-append : (g : Network) (xs ys : List (List Stop)) → all_customers g (xs ++ ys) ≡ all_customers g xs ++ all_customers g ys
all_customers-append g [] ys = refl
all_customers-append g (x ∷ xs) ys = ap (λ l. customers_of g x ++ l) (all_customers-append g xs ys) ∙ sym (append_assoc (customers_of g x) (all_customers g xs) (all_customers g ys))

-- the customers of one route more
pub all_customers-more : {R : Type 0} (g : Network) (stops : R → List Stop) (routes : List R) (i : ℕ) (r : R) → i < length routes → r ≡ get_or routes i r →
    all_customers g (map stops (take (i + 1) routes)) ≡ all_customers g (map stops (take i routes)) ++ customers_of g (stops r)
all_customers-more {R} g stops routes i r within is =
    let more : take (i + 1) routes ≡ take i routes ++ r ∷ [] = take_more routes i r within ∙ ap (λ (q : R). take i routes ++ q ∷ []) (sym is) in
    rw (more, map-append, all_customers-append, append-nil) refl

-- routes as plans by their stops, and their stops again
pub stops_by : {R : Type 0} (stops : R → List Stop) (routes : List R) → stops_of (plans_by stops routes) ≡ map stops routes
stops_by stops [] = refl
stops_by stops (r ∷ rs) = ap (λ (l : List (List Stop)). stops r ∷ l) (stops_by stops rs)

pub plans_by_own : (plans : List RoutePlan) → plans_by (λ p. p.stops) plans ≡ plans
plans_by_own [] = refl
plans_by_own (p ∷ ps) = ap (λ (l : List RoutePlan). p ∷ l) (plans_by_own ps)

-- customers rise with their numbers
customers_rise : (g : Network) → AllPairs (λ x y. x < y) (customer_nodes g)
customers_rise g =
    let n = node_count g in
    AllPairs-filter (λ x y. x < y) (is_customer g) (range_with_len 0 n) (AllPairs-from_increasing (range_with_len 0 n)
    (λ k h. let long : k + 1 < n = omega (arith, length-range_with_len 0 n, h) in
    let here : k < n = omega arith in
    omega (arith, get_or-range_with_len 0 n k 0 here, get_or-range_with_len 0 n (k + 1) 0 long)))

-- a customer has one number
one_number : (g : Network) (i j x : ℕ) → slice_get (customer_nodes g) i ≡ Some x → slice_get (customer_nodes g) j ≡ Some x → i ≡ j
one_number g i j x at_i at_j =
    let xi = get_or_from_slice_get (customer_nodes g) i x 0 at_i in
    let xj = get_or_from_slice_get (customer_nodes g) j x 0 at_j in
    elim (cases_order i j) [
      | inl same ↦ same
      | inr other ↦ elim other [
        | inl below ↦ let rises = customers_rise g i j 0 below (slice_get_within (customer_nodes g) j x at_j) in absurd (omega (arith, rises, xi, xj))
        | inr above ↦ let rises = customers_rise g j i 0 above (slice_get_within (customer_nodes g) i x at_i) in absurd (omega (arith, rises, xi, xj))
      ]
    ]

-- two customers are the same where their numbers are
same_number : (g : Network) (i j x y : ℕ) → slice_get (customer_nodes g) i ≡ Some x → slice_get (customer_nodes g) j ≡ Some y → nat_eq i j ≡ nat_eq x y
same_number g i j x y at_i at_j = elim (cases_eq i j) [
  | inl same ↦
      let equal : x ≡ y = same_Some x y (sym at_i ∙ ap (λ n. slice_get (customer_nodes g) n) same ∙ at_j) in
      eq-eqb i j same ∙ sym (eq-eqb x y equal)
  | inr other ↦
      ne_eqb i j other ∙ sym (ne_eqb x y (λ equal. other (one_number g i j x at_i (at_j ∙ ap (λ n. Some n) (sym equal)))))
]

one_visit : (nodes : List ℕ) (node x : ℕ) → times_in (nodes ++ node ∷ []) x ≡ times_in nodes x + (if nat_eq node x then 1 else 0)
one_visit nodes node x = omega (arith, times_in-append nodes (node ∷ []) x)

-- the counts with one more customer
pub tallies_customer : (g : Network) (before after nodes : List ℕ) (number : ℕ) → number < length before →
    after ≡ set before number (min (slice_index before number + 1) 255) →
    (node : ℕ) → slice_get (customer_nodes g) number ≡ Some node → Tallies g before nodes → Tallies g after (nodes ++ node ∷ [])
tallies_customer g before after nodes number within is node at tallies = record { counts = counts }
  where
    counts : (i x : ℕ) → slice_get (customer_nodes g) i ≡ Some x → slice_index after i ≡ min (times_in (nodes ++ node ∷ []) x) 255
    counts i x at_i =
        let was : slice_index before i ≡ min (times_in nodes x) 255 = tallies.counts i x at_i in
        let more = one_visit nodes node x in
        let same = same_number g number i node x at at_i in
        elim (cases_eq number i) [
          | inl here ↦
              let visit : nat_eq node x ≡ true = sym same ∙ eq-eqb number i here in
              let total : times_in (nodes ++ node ∷ []) x ≡ times_in nodes x + 1 = rw visit at more in
              let set_here : slice_index after number ≡ min (slice_index before number + 1) 255 =
              ap (λ l. slice_index l number) is ∙ get_or-set_same before number (min (slice_index before number + 1) 255) 0 within in
              let now : slice_index after i ≡ min (slice_index before i + 1) 255 = subst (λ k. slice_index after k ≡ min (slice_index before k + 1) 255) here set_here in
              omega (arith, was, total, now)
          | inr other ↦
              let visit : nat_eq node x ≡ false = sym same ∙ ne_eqb number i other in
              let total : times_in (nodes ++ node ∷ []) x ≡ times_in nodes x + 0 = rw visit at more in
              let now : slice_index after i ≡ slice_index before i =
              ap (λ l. slice_index l i) is ∙ get_or-set_other before number i (min (slice_index before number + 1) 255) 0 (λ same. other (sym same)) in
              omega (arith, was, total, now)
        ]

-- a customer that was counted once or not at all is passed over
pub once_passed : (visits nodes : List ℕ) (i : ℕ) → i < length nodes → (1 < slice_index visits i → ⊥) → first_again visits (i + 1) (drop (i + 1) nodes) ≡ first_again visits i (drop i nodes)
once_passed visits nodes i within few =
    let step : first_again visits i (drop i nodes) ≡ (if nat_lt 1 (slice_index visits i) then Some (get_or nodes i 0) else first_again visits (i + 1) (drop (i + 1) nodes)) = at_drop_more (first_again visits i) nodes i 0 within in
    let test : nat_lt 1 (slice_index visits i) ≡ false = grind (arith, nat_tests, few) in
    sym (rw test at step)

-- a customer that was counted is passed over
pub counted_passed : (visits nodes : List ℕ) (i : ℕ) → i < length nodes → (slice_index visits i ≡ 0 → ⊥) → first_missed visits (i + 1) (drop (i + 1) nodes) ≡ first_missed visits i (drop i nodes)
counted_passed visits nodes i within some =
    let step : first_missed visits i (drop i nodes) ≡ (if nat_eq (slice_index visits i) 0 then Some (get_or nodes i 0) else first_missed visits (i + 1) (drop (i + 1) nodes)) = at_drop_more (first_missed visits i) nodes i 0 within in
    let test : nat_eq (slice_index visits i) 0 ≡ false = ne_eqb (slice_index visits i) 0 some in
    sym (rw test at step)

-- the first customer whose number passes a test
first_again-find : (p : ℕ → Bool) (visits : List ℕ) (number : ℕ) (nodes : List ℕ) →
    ((i x : ℕ) → slice_get nodes i ≡ Some x → nat_lt 1 (slice_index visits (number + i)) ≡ p x) → first_again visits number nodes ≡ find p nodes
first_again-find p visits number [] tells = refl
first_again-find p visits number (n ∷ ns) tells =
    let none : number + 0 ≡ number = omega arith in
    let here : nat_lt 1 (slice_index visits number) ≡ p n = ap (λ i. nat_lt 1 (slice_index visits i)) (sym none) ∙ tells 0 n refl in
    let rest = first_again-find p visits (number + 1) ns (λ i x at. let next : number + 1 + i ≡ number + suc i = omega arith in ap (λ j. nat_lt 1 (slice_index visits j)) next ∙ tells (suc i) x at) in
    rw (here, rest) refl

first_missed-find : (p : ℕ → Bool) (visits : List ℕ) (number : ℕ) (nodes : List ℕ) →
    ((i x : ℕ) → slice_get nodes i ≡ Some x → nat_eq (slice_index visits (number + i)) 0 ≡ p x) → first_missed visits number nodes ≡ find p nodes
first_missed-find p visits number [] tells = refl
first_missed-find p visits number (n ∷ ns) tells =
    let none : number + 0 ≡ number = omega arith in
    let here : nat_eq (slice_index visits number) 0 ≡ p n = ap (λ i. nat_eq (slice_index visits i) 0) (sym none) ∙ tells 0 n refl in
    let rest = first_missed-find p visits (number + 1) ns (λ i x at. let next : number + 1 + i ≡ number + suc i = omega arith in ap (λ j. nat_eq (slice_index visits j) 0) next ∙ tells (suc i) x at) in
    rw (here, rest) refl

above_one : (times seen : ℕ) → seen ≡ min times 255 → nat_lt 1 seen ≡ nat_lt 1 times
above_one times seen is = grind (arith, nat_tests)

is_none : (times seen : ℕ) → seen ≡ min times 255 → nat_eq seen 0 ≡ not (nat_lt 0 times)
is_none times seen is = grind (arith, nat_tests)

-- the counts over all routes tell the first customer that is served more than once, and the first that is not
pub first_again-twice : (g : Network) (visits : List ℕ) (plans : List RoutePlan) → Tallies g visits (all_customers g (stops_of plans)) → first_again visits 0 (customer_nodes g) ≡ first_twice g plans
first_again-twice g visits plans tallies = first_again-find (λ x. nat_lt 1 (times_served g plans x)) visits 0 (customer_nodes g)
    (λ i x at. let same : 0 + i ≡ i = omega arith in rw same (above_one (times_served g plans x) (slice_index visits i) (tallies.counts i x at)))

pub first_missed-unserved : (g : Network) (visits : List ℕ) (plans : List RoutePlan) → Tallies g visits (all_customers g (stops_of plans)) → first_missed visits 0 (customer_nodes g) ≡ first_unserved g plans
first_missed-unserved g visits plans tallies = first_missed-find (λ x. not (nat_lt 0 (times_served g plans x))) visits 0 (customer_nodes g)
    (λ i x at. let same : 0 + i ≡ i = omega arith in rw same (is_none (times_served g plans x) (slice_index visits i) (tallies.counts i x at)))

-- the same of routes of which no more is told than their stops
module _ {R : Type 0} (g : Network) (visits : List ℕ) (stops : R → List Stop) (routes : List R) (tallies : Tallies g visits (all_customers g (map stops routes))) where
  tallies_by : Tallies g visits (all_customers g (stops_of (plans_by stops routes)))
  tallies_by = subst (λ (l : List (List Stop)). Tallies g visits (all_customers g l)) (sym (stops_by stops routes)) tallies

  pub twice_by : (found : Option ℕ) → found ≡ first_again visits 0 (customer_nodes g) → first_twice g (plans_by stops routes) ≡ found
  twice_by found is = sym (first_again-twice g visits (plans_by stops routes) tallies_by) ∙ sym is

  pub unserved_by : (found : Option ℕ) → found ≡ first_missed visits 0 (customer_nodes g) → first_unserved g (plans_by stops routes) ≡ found
  unserved_by found is = sym (first_missed-unserved g visits (plans_by stops routes) tallies_by) ∙ sym is
