-- The routes of a fleet plan as lists of places: a split on a pair leaves none out.
use Rattle.std.proofs.Common.{◌≡◌, ◌∙◌, ℕ, zero, suc, ◌+◌, ◌<◌, ◌≤◌, Bool, true, false, not, ◌&&◌, ◌||◌, arith, refl, sym, ap, subst, List, [], ◌∷◌, ◌++◌, map, ◌⊎◌, inl, inr}
use Rattle.std.specs.Prelude.{nat_eq}
use Rattle.std.proofs.lemmas.Bool.{cases_Bool, cases_eq, eq-eqb, ne_eqb, eqb-true, and_parts, or_cases, false≢true}
use Rattle.std.proofs.lemmas.List.Elements.{All-head, All-tail, All-nil, All-cons}
use Rattle.customer_sets.specs.Pairs.{any_pair, forbid, require}
use Rattle.ev_model.specs.Fleet.{all_customers, customers_of, IsFleetPlan, times_in}
use Rattle.ev_model.specs.Network.{Network}
use Rattle.ev_model.specs.Route.{route_of}
use Rattle.ev_model.specs.declared.Stop.{Stop}
use Rattle.fleet_model.specs.Pairs.{FleetKeepsPairs, KeepsPairs, PlanKeepsPairs}
use Rattle.fleet_model.specs.Places.{customer_number, place_of, places_of}
use Rattle.fleet_model.specs.Tree.{BranchTree, IsBranchTree, KeepsSomeLeaf, leaf, split}
use Rattle.fleet_model.proofs.Counts.{AreCustomers, numbers_once, times_append}
use Rattle.fleet_model.proofs.Fleets.{all_filtered, served_once}
use Rattle.fleet_model.proofs.Neighbours.{follows, follows_after, follows_before, one_follower, one_leader}
use Rattle.fleet_model.proofs.Plans.{filtered}

abbrev all_places : Network → List (List Stop) → List ℕ
all_places g [] = []
all_places g (p ∷ ps) = places_of g p ++ all_places g ps

later : (a b x y : ℕ) (ys : List ℕ) → follows a b (y ∷ ys) ≡ true → follows a b (x ∷ y ∷ ys) ≡ true
later a b x y ys h = grind (arith, h)

pub keep_all : (allows : ℕ → ℕ → Bool) (xs : List ℕ) → ((a b : ℕ) → follows a b xs ≡ true → allows a b ≡ true) → KeepsPairs allows xs
keep_all allows [] f = tt
keep_all allows (x ∷ []) f = tt
keep_all allows (x ∷ y ∷ ys) f =
    let one : nat_eq x x ≡ true = eq-eqb x x refl in
    let two : nat_eq y y ≡ true = eq-eqb y y refl in
    let here : follows x y (x ∷ y ∷ ys) ≡ true = rw (one, two) refl in
    (f x y here, keep_all allows (y ∷ ys) (λ a b h. f a b (later a b x y ys h)))

all_kept : (allows : ℕ → ℕ → Bool) (xs : List ℕ) → KeepsPairs allows xs → (a b : ℕ) → follows a b xs ≡ true → allows a b ≡ true
all_kept allows [] keeps a b h = absurd (false≢true h)
all_kept allows (x ∷ []) keeps a b h = absurd (false≢true h)
all_kept allows (x ∷ y ∷ ys) keeps a b h = elim (or_cases (nat_eq x a && nat_eq y b) (follows a b (y ∷ ys)) h) [
  | inl here ↦
      let parts = and_parts (nat_eq x a) (nat_eq y b) here in
      let first : x ≡ a = eqb-true x a parts.0 in
      let second : y ≡ b = eqb-true y b parts.1 in
      subst (λ c. allows c b ≡ true) first (subst (λ c. allows x c ≡ true) second keeps.0)
  | inr after ↦ all_kept allows (y ∷ ys) keeps.1 a b after
]

plans_keep : (g : Network) (allows new : ℕ → ℕ → Bool) (plans : List (List Stop)) → FleetKeepsPairs g allows plans
    → ((a b : ℕ) → follows a b (all_places g plans) ≡ true → allows a b ≡ true → new a b ≡ true) → FleetKeepsPairs g new plans
plans_keep g allows new [] keeps f = All-nil (PlanKeepsPairs g new)
plans_keep g allows new (p ∷ ps) keeps f =
    let own = places_of g p in
    let kept = All-head (PlanKeepsPairs g allows) p ps keeps in
    All-cons (PlanKeepsPairs g new) p ps
    (keep_all new own (λ a b h. f a b (follows_before a b own (all_places g ps) h) (all_kept allows own kept a b h)))
    (plans_keep g allows new ps (All-tail (PlanKeepsPairs g allows) p ps keeps) (λ a b h. f a b (follows_after a b own (all_places g ps) h)))

pub weaker_pairs : (g : Network) (allows new : ℕ → ℕ → Bool) (plans : List (List Stop)) → FleetKeepsPairs g allows plans → ((a b : ℕ) → allows a b ≡ true → new a b ≡ true) → FleetKeepsPairs g new plans
weaker_pairs g allows new plans keeps f = plans_keep g allows new plans keeps (λ a b h. f a b)

pub keeps_any : (g : Network) (plans : List (List Stop)) → FleetKeepsPairs g any_pair plans
keeps_any g [] = All-nil (PlanKeepsPairs g any_pair)
keeps_any g (p ∷ ps) = All-cons (PlanKeepsPairs g any_pair) p ps (keep_all any_pair (places_of g p) (λ a b h. refl)) (keeps_any g ps)

-- a customer's place stands as often as its number
same_test : (x c : ℕ) → nat_eq (x + 1) (c + 1) ≡ nat_eq x c
same_test x c = elim (cases_eq x c) [
  | inl same ↦ eq-eqb (x + 1) (c + 1) (omega (arith, same)) ∙ sym (eq-eqb x c same)
  | inr apart ↦ ne_eqb (x + 1) (c + 1) (λ e. apart (omega (arith, e))) ∙ sym (ne_eqb x c apart)
]

count_places : (g : Network) (xs : List ℕ) (c : ℕ) → AreCustomers g xs → times_in (map (place_of g) xs) (c + 1) ≡ times_in (map (customer_number g) xs) c
count_places g [] c are = refl
count_places g (x ∷ xs) c are =
    let rest = count_places g xs c are.1 in
    let is = are.0 in
    rw (is, same_test (customer_number g x) c, rest) refl

depot_apart : (c : ℕ) → nat_eq 0 (c + 1) ≡ false
depot_apart c = ne_eqb 0 (c + 1) (λ e. omega (arith, e))

count_route : (g : Network) (p : List Stop) (c : ℕ) → times_in (places_of g p) (c + 1) ≡ times_in (map (customer_number g) (customers_of g p)) c
count_route g p c =
    let apart = depot_apart c in
    let inner = times_append (map (place_of g) (customers_of g p)) (0 ∷ []) (c + 1) in
    let same = count_places g (customers_of g p) c (filtered g (route_of p)) in
    rw (apart, inner, same, apart) (omega arith)

map_append : (g : Network) (xs ys : List ℕ) → map (customer_number g) (xs ++ ys) ≡ map (customer_number g) xs ++ map (customer_number g) ys
map_append g [] ys = refl
map_append g (x ∷ xs) ys = ap (λ zs. customer_number g x ∷ zs) (map_append g xs ys)

times_map : (g : Network) (xs ys : List ℕ) (c : ℕ) → times_in (map (customer_number g) (xs ++ ys)) c ≡ times_in (map (customer_number g) xs) c + times_in (map (customer_number g) ys) c
times_map g xs ys c = ap (λ zs. times_in zs c) (map_append g xs ys) ∙ times_append (map (customer_number g) xs) (map (customer_number g) ys) c

count_all : (g : Network) (plans : List (List Stop)) (c : ℕ) → times_in (all_places g plans) (c + 1) ≡ times_in (map (customer_number g) (all_customers g plans)) c
count_all g [] c = refl
count_all g (p ∷ ps) c =
    times_append (places_of g p) (all_places g ps) (c + 1)
    ∙ rw (count_route g p c, count_all g ps c) (sym (times_map g (customers_of g p) (all_customers g ps) c))

place_once : (g : Network) (k : ℕ) (plans : List (List Stop)) (i : ℕ) → IsFleetPlan g k plans → 0 < i → times_in (all_places g plans) i ≤ 1
place_once g k plans zero fleet some = absurd (omega (arith, some))
place_once g k plans (suc c) fleet some =
    let next : c + 1 ≡ suc c = omega arith in
    let count : times_in (all_places g plans) (suc c) ≡ times_in (map (customer_number g) (all_customers g plans)) c = rw next at (count_all g plans c) in
    omega (arith, count, numbers_once g (all_customers g plans) (all_filtered g plans) (served_once g k plans fleet) c)

forbidden : (i j a b : ℕ) (t : Bool) → t ≡ true → (nat_eq a i && nat_eq b j) ≡ false → (t && not (nat_eq a i && nat_eq b j)) ≡ true
forbidden i j a b t is none = rw (is, none) refl

or_true : (b : Bool) → (b || true) ≡ true
or_true true = refl
or_true false = refl

required : (i j a b : ℕ) (t : Bool) → t ≡ true → (a ≡ i → b ≡ j) → (b ≡ j → a ≡ i) → (t && (nat_eq a b || (not (nat_eq a i && not (nat_eq b j)) && not (nat_eq b j && not (nat_eq a i))))) ≡ true
required i j a b t is first second = elim (cases_eq a i) [
  | inl same ↦ rw (is, eq-eqb a i same, eq-eqb b j (first same)) (or_true (nat_eq a b))
  | inr apart ↦
      let other : nat_eq b j ≡ false = ne_eqb b j (λ e. apart (second e)) in
      rw (is, ne_eqb a i apart, other) (or_true (nat_eq a b))
]

-- each fleet plan keeps the pairs of one of the two children of a split
pub keeps_a_child : (g : Network) (k : ℕ) (allows : ℕ → ℕ → Bool) (i j : ℕ) (plans : List (List Stop)) → IsFleetPlan g k plans → FleetKeepsPairs g allows plans → 0 < i → 0 < j
    → FleetKeepsPairs g (forbid i j allows) plans ⊎ FleetKeepsPairs g (require i j allows) plans
keeps_a_child g k allows i j plans fleet keeps some_i some_j =
    let all = all_places g plans in
    let once_i = place_once g k plans i fleet some_i in
    let once_j = place_once g k plans j fleet some_j in
    elim (cases_Bool (follows i j (all_places g plans))) [
      | inl together ↦ inr (plans_keep g allows (require i j allows) plans keeps (λ a b h is.
          required i j a b (allows a b) is
          (λ same. sym (one_follower i j b all once_i together (subst (λ c. follows c b all ≡ true) same h)))
          (λ same. one_leader a i j all once_j (subst (λ c. follows a c all ≡ true) same h) together)))
      | inr apart ↦ inl (plans_keep g allows (forbid i j allows) plans keeps (λ a b h is.
          elim (cases_Bool (nat_eq a i && nat_eq b j)) [
            | inl both ↦
                let parts = and_parts (nat_eq a i) (nat_eq b j) both in
                let moved : follows i b all ≡ true = subst (λ c. follows c b all ≡ true) (eqb-true a i parts.0) h in
                let here : follows i j all ≡ true = subst (λ c. follows i c all ≡ true) (eqb-true b j parts.1) moved in
                absurd (false≢true (sym apart ∙ here))
            | inr free ↦ forbidden i j a b (allows a b) is free
          ]))
    ]

pub keeps_some_leaf : (g : Network) (k : ℕ) (allows : ℕ → ℕ → Bool) (t : BranchTree) (plans : List (List Stop)) → IsFleetPlan g k plans → IsBranchTree g t → FleetKeepsPairs g allows plans → KeepsSomeLeaf g allows t plans
keeps_some_leaf g k allows (leaf n) plans fleet is keeps = keeps
keeps_some_leaf g k allows (split i j without with_it) plans fleet is keeps =
    elim (keeps_a_child g k allows i j plans fleet keeps is.0 is.2.0) [
      | inl first ↦ inl (keeps_some_leaf g k (forbid i j allows) without plans fleet is.3.0 first)
      | inr second ↦ inr (keeps_some_leaf g k (require i j allows) with_it plans fleet is.3.1 second)
    ]
