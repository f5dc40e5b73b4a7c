-- Entries into a set of customers: one at least, and no more than the set has customers, where each
-- customer is served once.
use Rattle.std.proofs.Common.{◌≡◌, ◌≢◌, ◌∙◌, ℕ, zero, suc, ◌+◌, ◌<◌, ◌≤◌, true, false, refl, sym, subst, List, [], ◌∷◌, ◌++◌, length, map, arith, inl, inr}
use Rattle.std.specs.List.{All}
use Rattle.std.specs.Prelude.{nat_eq, if◌then◌else◌}
use Rattle.std.proofs.lemmas.Bool.{cases_Bool, cases_eq, eq-eqb, ne_eqb}
use Rattle.std.proofs.lemmas.List.{map-append}
use Rattle.std.proofs.lemmas.List.Elements.{All-head}
use Rattle.customer_sets.specs.CustSet.{has}
use Rattle.ev_model.specs.Fleet.{all_customers, customers_of, IsFleetPlan, times_in}
use Rattle.ev_model.specs.Network.{is_customer, Network, node_count}
use Rattle.ev_model.specs.Route.{route_of}
use Rattle.ev_model.specs.declared.Stop.{Stop}
use Rattle.fleet_model.specs.Places.{customer_count, customer_number, numbers_of, place_of, places_of}
use Rattle.fleet_model.proofs.Counts.{AreCustomers, count_numbers, numbers_once}
use Rattle.fleet_model.proofs.Fleets.{all_filtered, served_once}
use Rattle.fleet_model.proofs.Plans.{filtered}
use Rattle.near_tree.specs.Branches.{IsInRange}
use Rattle.near_tree.specs.Entries.{enters, entries_among, is_in}
use Rattle.near_tree.specs.Pairs.{fleet_pairs, next_pairs}

-- how many places of a list are in a set
abbrev inside : List ℕ → List ℕ → ℕ
inside set [] = 0
inside set (x ∷ xs) = (if is_in set x then 1 else 0) + inside set xs

-- and how many customers, by number
abbrev members : List ℕ → List ℕ → ℕ
members set [] = 0
members set (c ∷ cs) = (if has set c then 1 else 0) + members set cs

-- each entry leads to a place of the set
enters_less : (set : List ℕ) (i j : ℕ) → (if enters set i j then 1 else 0) ≤ (if is_in set j then 1 else 0)
enters_less set i j = elim (cases_Bool (is_in set j)) [
  | inl is ↦ elim (cases_Bool (is_in set i)) [
    | inl from ↦ rw (is, from) (omega arith)
    | inr from ↦ rw (is, from) (omega arith)
  ]
  | inr other ↦ rw other (omega arith)
]

entries_few : (set : List ℕ) (x : ℕ) (ys : List ℕ) → entries_among set (next_pairs (x ∷ ys)) ≤ inside set ys
entries_few set x [] = omega arith
entries_few set x (y ∷ ys) = omega (arith, enters_less set x y, entries_few set y ys)

-- who comes to the set from without enters it
entries_some : (set : List ℕ) (x : ℕ) (ys : List ℕ) → is_in set x ≡ false → 1 ≤ inside set ys → 1 ≤ entries_among set (next_pairs (x ∷ ys))
entries_some set x [] out some = absurd (omega (arith, some))
entries_some set x (y ∷ ys) out some = elim (cases_Bool (is_in set y)) [
  | inl is ↦ rw (is, out) (omega arith)
  | inr other ↦
      let later : 1 ≤ 0 + inside set ys = rw other at some in
      rw other (omega (arith, entries_some set y ys other (omega (arith, later))))
]

inside_append : (set xs ys : List ℕ) → inside set (xs ++ ys) ≡ inside set xs + inside set ys
inside_append set [] ys = omega arith
inside_append set (x ∷ xs) ys = omega (arith, inside_append set xs ys)

members_append : (set xs ys : List ℕ) → members set (xs ++ ys) ≡ members set xs + members set ys
members_append set [] ys = omega arith
members_append set (x ∷ xs) ys = omega (arith, members_append set xs ys)

pub entries_append : (set : List ℕ) (xs ys : List (ℕ × ℕ)) → entries_among set (xs ++ ys) ≡ entries_among set xs + entries_among set ys
entries_append set [] ys = omega arith
entries_append set (x ∷ xs) ys = omega (arith, entries_append set xs ys)

inside_places : (g : Network) (set xs : List ℕ) → AreCustomers g xs → inside set (map (place_of g) xs) ≡ members set (map (customer_number g) xs)
inside_places g set [] are = refl
inside_places g set (x ∷ xs) are =
    let is = are.0 in
    let rest = inside_places g set xs are.1 in
    let next : customer_number g x + 1 ≡ suc (customer_number g x) = omega arith in
    rw (is, next, rest) refl

-- the places of a plan after the first
abbrev later_places : Network → List Stop → List ℕ
later_places g plan = map (place_of g) (customers_of g plan) ++ 0 ∷ []

inside_plan : (g : Network) (set : List ℕ) (plan : List Stop) → inside set (later_places g plan) ≡ members set (numbers_of g plan)
inside_plan g set plan =
    let parts = inside_append set (map (place_of g) (customers_of g plan)) (0 ∷ []) in
    omega (arith, parts, inside_places g set (customers_of g plan) (filtered g (route_of plan)))

members_fleet : (g : Network) (set : List ℕ) (p : List Stop) (ps : List (List Stop)) → members set (map (customer_number g) (all_customers g (p ∷ ps))) ≡ members set (numbers_of g p) + members set (map (customer_number g) (all_customers g ps))
members_fleet g set p ps = rw (map-append (customer_number g) (customers_of g p) (all_customers g ps)) (members_append set (numbers_of g p) (map (customer_number g) (all_customers g ps)))

fleet_few : (g : Network) (set : List ℕ) (plans : List (List Stop)) → entries_among set (fleet_pairs g plans) ≤ members set (map (customer_number g) (all_customers g plans))
fleet_few g set [] = omega arith
fleet_few g set (p ∷ ps) =
    let parts = entries_append set (next_pairs (places_of g p)) (fleet_pairs g ps) in
    let first = entries_few set 0 (later_places g p) in
    omega (arith, parts, first, inside_plan g set p, members_fleet g set p ps, fleet_few g set ps)

fleet_some : (g : Network) (set : List ℕ) (plans : List (List Stop)) → 1 ≤ members set (map (customer_number g) (all_customers g plans)) → 1 ≤ entries_among set (fleet_pairs g plans)
fleet_some g set [] some = some
fleet_some g set (p ∷ ps) some =
    let parts = entries_append set (next_pairs (places_of g p)) (fleet_pairs g ps) in
    elim (cases_eq (members set (numbers_of g p)) 0) [
      | inl none ↦ omega (arith, parts, fleet_some g set ps (omega (arith, some, members_fleet g set p ps, none)))
      | inr here ↦ omega (arith, parts, entries_some set 0 (later_places g p) refl (omega (arith, here, inside_plan g set p)))
    ]

-- how often the customers of a set stand in a list
abbrev standing : List ℕ → List ℕ → ℕ
standing [] ns = 0
standing (c ∷ cs) ns = times_in ns c + standing cs ns

standing_more : (set : List ℕ) (n : ℕ) (ns : List ℕ) → (if has set n then 1 else 0) + standing set ns ≤ standing set (n ∷ ns)
standing_more [] n ns = omega arith
standing_more (c ∷ cs) n ns =
    let rest = standing_more cs n ns in
    elim (cases_eq c n) [
      | inl same ↦
          let one : nat_eq c n ≡ true = eq-eqb c n same in
          let two : nat_eq n c ≡ true = eq-eqb n c (sym same) in
          rw (one, two) (omega (arith, rest))
      | inr apart ↦
          let one : nat_eq c n ≡ false = ne_eqb c n apart in
          rw one (omega (arith, rest))
    ]

members_stand : (set ns : List ℕ) → members set ns ≤ standing set ns
members_stand set [] = omega arith
members_stand set (n ∷ ns) = omega (arith, members_stand set ns, standing_more set n ns)

standing_once : (set ns : List ℕ) → ((c : ℕ) → times_in ns c ≤ 1) → standing set ns ≤ length set
standing_once [] ns once = omega arith
standing_once (c ∷ cs) ns once = omega (arith, once c, standing_once cs ns once)

member_counts : (set ns : List ℕ) (c : ℕ) → has set c ≡ true → times_in ns c ≤ members set ns
member_counts set [] c is = omega arith
member_counts set (n ∷ ns) c is =
    let rest = member_counts set ns c is in
    elim (cases_eq n c) [
      | inl same ↦
          let one : nat_eq n c ≡ true = eq-eqb n c same in
          let here : has set n ≡ true = subst (λ m. has set m ≡ true) (sym same) is in
          rw (one, here) (omega (arith, rest))
      | inr apart ↦
          let one : nat_eq n c ≡ false = ne_eqb n c apart in
          rw one (omega (arith, rest))
    ]

-- each number below the count is a customer's
record HasNumber (g : Network) (n c : ℕ) : Type 0 where
  node : ℕ
  known : node < n
  customer : is_customer g node ≡ true
  number : customer_number g node ≡ c

numbered_below : (g : Network) (n c : ℕ) → c < customer_number g n → HasNumber g n c
numbered_below g zero c low = absurd (omega (arith, low))
numbered_below g (suc n) c low = elim (cases_Bool (is_customer g n)) [
  | inl is ↦
      let within : c < customer_number g n + 1 = rw is at low in
      elim (cases_eq (customer_number g n) c) [
        | inl same ↦ record { node = n; known = omega arith; customer = is; number = same }
        | inr apart ↦
            let found = numbered_below g n c (omega (arith, within, apart)) in
            record { node = found.node; known = omega (arith, found.known); customer = found.customer; number = found.number }
      ]
  | inr other ↦
      let within : c < customer_number g n + 0 = rw other at low in
      let found = numbered_below g n c (omega (arith, within)) in
      record { node = found.node; known = omega (arith, found.known); customer = found.customer; number = found.number }
]

-- each customer is served, by number
number_once : (g : Network) (k : ℕ) (plans : List (List Stop)) (c : ℕ) → IsFleetPlan g k plans → c < customer_count g → times_in (map (customer_number g) (all_customers g plans)) c ≡ 1
number_once g k plans c fleet low =
    let found = numbered_below g (node_count g) c low in
    let counted = count_numbers g (all_customers g plans) found.node (all_filtered g plans) found.customer in
    let once = fleet.once found.node found.known found.customer in
    subst (λ m. times_in (map (customer_number g) (all_customers g plans)) m ≡ 1) found.number (counted ∙ once)

pub top_range : (g : Network) (k : ℕ) (plans : List (List Stop)) (set : List ℕ) → IsFleetPlan g k plans → set ≢ [] → All (λ c. c < customer_count g) set → IsInRange g plans (record { set = set; least = 1; most = length set })
top_range g k plans [] fleet some known = absurd (some refl)
top_range g k plans (c ∷ cs) fleet some known =
    let numbers = map (customer_number g) (all_customers g plans) in
    let set = c ∷ cs in
    let low = All-head (λ c. c < customer_count g) c cs known in
    let here : has set c ≡ true = let one : nat_eq c c ≡ true = eq-eqb c c refl in rw one refl in
    let served = number_once g k plans c fleet low in
    let counts = member_counts set numbers c here in
    let once = numbers_once g (all_customers g plans) (all_filtered g plans) (served_once g k plans fleet) in
    record {
      least = fleet_some g set plans (omega (arith, served, counts));
      most = omega (arith, fleet_few g set plans, members_stand set numbers, standing_once set numbers once);
    }
