-- Routes that serve each customer at most once begin with different customers: sorted by these they rise, and there are no more of them than nodes.
use Rattle.std.proofs.Common.{◌≡◌, ◌≢◌, ◌∙◌, ℕ, zero, suc, ◌+◌, ◌<◌, ◌≤◌, ◌&&◌, Bool, true, List, [], ◌∷◌, ◌++◌, filter, length, get_or, map, not, refl, sym, ap, subst, arith, inl, inr, add-one}
use Rattle.std.specs.Prelude.{nat_eq, slice_index, is_none}
use Rattle.std.specs.List.{All}
use Rattle.std.specs.List.Sorted.{IsNonDecreasingBy, IsStrictlyIncreasing}
use Rattle.std.proofs.lemmas.Bool.{cases_Bool, eq-eqb, false≢true}
use Rattle.std.proofs.lemmas.List.{get_or-map, length-map}
use Rattle.std.proofs.lemmas.List.Elements.{All-head, All-map, All-tail}
use Rattle.ev_model.specs.Fleet.{ServesOnly, all_customers, customers_of, times_in}
use Rattle.ev_model.specs.Network.{Network, curve_at, is_customer, node_count}
use Rattle.ev_model.specs.Route.{route_of}
use Rattle.ev_model.specs.declared.Stop.{Stop}
use Rattle.fleet_model.proofs.Counts.{AreCustomers, times_append}
use Rattle.fleet_model.proofs.Plans.{filtered}
use Rattle.fleet_model.proofs.Weighed.{AreBelow}
use Rattle.set_partitioning.specs.FirstCustomers.{first_customer_of, first_or_depot, first_outside}

-- ---- the first stop outside the depot that was not inserted is at the first customer

abbrev is_outside : ℕ → Bool
is_outside node = not (nat_eq node 0)

first_in_route : (ss : List Stop) → first_outside ss ≡ first_or_depot (filter is_outside (route_of ss))
first_in_route [] = refl
first_in_route (s ∷ ss) = elim (cases_Bool s.via) [
  | inl via ↦ rw via (first_in_route ss)
  | inr own ↦ elim (cases_Bool (nat_eq s.node 0)) [
    | inl home ↦ rw (own, home) (first_in_route ss)
    | inr out ↦ rw (own, out) refl
  ]
]

first_of_customers : (g : Network) (xs : List ℕ) → AreCustomers g xs → first_or_depot (filter is_outside (xs ++ 0 ∷ [])) ≡ first_or_depot xs
first_of_customers g [] are = refl
first_of_customers g (x ∷ xs) are = elim (cases_Bool (nat_eq x 0)) [
  | inl home ↦
      let never : not true && is_none (curve_at g x) ≡ true = rw home at are.0 in
      absurd (false≢true never)
  | inr out ↦ rw out refl
]

first_served : (g : Network) (ss : List Stop) → ServesOnly g ss → first_outside ss ≡ first_or_depot (customers_of g ss)
first_served g ss only =
    first_in_route ss ∙ ap (λ nodes. first_or_depot (filter is_outside nodes)) only ∙ first_of_customers g (customers_of g ss) (filtered g (route_of ss))

-- ---- two routes that begin with the same customer serve it twice

at_head : (x y : ℕ) (xs : List ℕ) → y ≡ x → times_in (y ∷ xs) x ≡ 1 + times_in xs x
at_head x y xs same = rw (eq-eqb y x same) refl

twice : (xs ys zs : List ℕ) → xs ≢ [] → ys ≢ [] → first_or_depot xs ≡ first_or_depot ys → 2 ≤ times_in (xs ++ (ys ++ zs)) (first_or_depot xs)
twice [] ys zs some others same = absurd (some refl)
twice (x ∷ xs) [] zs some others same = absurd (others refl)
twice (x ∷ xs) (y ∷ ys) zs some others same =
    let first : times_in (x ∷ (xs ++ (y ∷ (ys ++ zs)))) x ≡ 1 + times_in (xs ++ (y ∷ (ys ++ zs))) x = at_head x x (xs ++ (y ∷ (ys ++ zs))) refl in
    let parts : times_in (xs ++ (y ∷ (ys ++ zs))) x ≡ times_in xs x + times_in (y ∷ (ys ++ zs)) x = times_append xs (y ∷ (ys ++ zs)) x in
    let second : times_in (y ∷ (ys ++ zs)) x ≡ 1 + times_in (ys ++ zs) x = at_head x y (ys ++ zs) (sym same) in
    omega (arith, first, parts, second)

first_is : (g : Network) (n : ℕ) (xs : List ℕ) → AreCustomers g xs → AreBelow n xs → xs ≢ [] → (is_customer g (first_or_depot xs) ≡ true) × (first_or_depot xs < n)
first_is g n [] are below some = absurd (some refl)
first_is g n (x ∷ xs) are below some = (are.0, below.0)

-- ---- rising numbers

above_place : (xs : List ℕ) → IsStrictlyIncreasing xs → (k : ℕ) → k < length xs → k ≤ slice_index xs k
above_place xs rising zero within = omega arith
above_place xs rising (suc k) within =
    let before = above_place xs rising k (omega (arith, within)) in
    let step : slice_index xs k < slice_index xs (k + 1) = rising k (omega (arith, within)) in
    let same : slice_index xs (k + 1) ≡ slice_index xs (suc k) = ap (λ n. slice_index xs n) (add-one k) in
    omega (arith, before, step, same)

few_rising : (xs : List ℕ) (n : ℕ) → IsStrictlyIncreasing xs → All (λ x. x < n) xs → length xs ≤ n
few_rising [] n rising below = omega arith
few_rising (x ∷ xs) n rising below =
    let last = above_place (x ∷ xs) rising (length xs) (omega arith) in
    let small : slice_index (x ∷ xs) (length xs) < n = below (length xs) 0 (omega arith) in
    omega (arith, last, small)

-- ---- routes, whatever else is told of them

module _ {R : Type 0} (stops : R → List Stop) (g : Network) where
  -- each of the routes serves customers of the network, and no other nodes, and none of them is served twice
  pub record AreApart (rs : List R) : Type 0 where
    pub some : All (λ r. customers_of g (stops r) ≢ []) rs
    pub only : All (λ r. ServesOnly g (stops r)) rs
    pub below : All (λ r. AreBelow (node_count g) (customers_of g (stops r))) rs
    pub once : (x : ℕ) → x < node_count g → is_customer g x ≡ true → times_in (all_customers g (map stops rs)) x ≤ 1

  abbrev first_of : R → ℕ
  first_of r = first_customer_of g (stops r)

  abbrev HasSome : R → Type 0
  HasSome r = customers_of g (stops r) ≢ []

  abbrev IsKnown : R → Type 0
  IsKnown r = AreBelow (node_count g) (customers_of g (stops r))

  first_customer_is : (r : R) → IsKnown r → HasSome r → (is_customer g (first_of r) ≡ true) × (first_of r < node_count g)
  first_customer_is r known some = first_is g (node_count g) (customers_of g (stops r)) (filtered g (route_of (stops r))) known some

  apart_at : (rs : List R) (k : ℕ) (d : R) → suc k < length rs → AreApart rs → first_of (get_or rs k d) ≢ first_of (get_or rs (suc k) d)
  apart_at [] k d within are = absurd (omega (arith, within))
  apart_at (p ∷ []) k d within are = absurd (omega (arith, within))
  apart_at (p ∷ q ∷ rs) zero d within are = λ same.
      let here = All-head HasSome p (q ∷ rs) are.some in
      let next = All-head HasSome q rs (All-tail HasSome p (q ∷ rs) are.some) in
      let more = twice (customers_of g (stops p)) (customers_of g (stops q)) (all_customers g (map stops rs)) here next same in
      let is = first_customer_is p (All-head IsKnown p (q ∷ rs) are.below) here in
      let few = are.once (first_of p) is.1 is.0 in
      omega (arith, more, few)
  apart_at (p ∷ q ∷ rs) (suc k) d within are =
      apart_at (q ∷ rs) k d (omega (arith, within)) (record {
        some = All-tail HasSome p (q ∷ rs) are.some;
        only = All-tail (λ r. ServesOnly g (stops r)) p (q ∷ rs) are.only;
        below = All-tail IsKnown p (q ∷ rs) are.below;
        once = λ x less is. omega (arith, are.once x less is, times_append (customers_of g (stops p)) (all_customers g (map stops (q ∷ rs))) x);
      })

  rise_by : (rs : List R) (d : R) → AreApart rs → IsNonDecreasingBy (λ r. first_outside (stops r)) rs → IsStrictlyIncreasing (map first_of rs)
  rise_by rs d are up k within =
      let long : k + 1 < length rs = rw length-map at within in
      let left : slice_index (map first_of rs) k ≡ first_of (get_or rs k d) = get_or-map first_of rs k d 0 (omega (arith, long)) in
      let right : slice_index (map first_of rs) (k + 1) ≡ first_of (get_or rs (k + 1) d) = get_or-map first_of rs (k + 1) d 0 long in
      let left_key : first_outside (stops (get_or rs k d)) ≡ first_of (get_or rs k d) = first_served g (stops (get_or rs k d)) (are.only k d (omega (arith, long))) in
      let right_key : first_outside (stops (get_or rs (k + 1) d)) ≡ first_of (get_or rs (k + 1) d) = first_served g (stops (get_or rs (k + 1) d)) (are.only (k + 1) d long) in
      let order : first_outside (stops (get_or rs k d)) ≤ first_outside (stops (get_or rs (k + 1) d)) = up k (k + 1) d (omega arith) long in
      let next : first_of (get_or rs k d) ≢ first_of (get_or rs (suc k) d) = apart_at rs k d (omega (arith, long)) are in
      let apart : first_of (get_or rs k d) ≢ first_of (get_or rs (k + 1) d) =
      subst (λ n. first_of (get_or rs k d) ≢ first_of (get_or rs n d)) (sym (add-one k)) next in
      omega (arith, left, right, left_key, right_key, order, apart)

  -- in order of these stops they are in rising order of their first customers
  pub firsts_rise : (rs : List R) → AreApart rs → IsNonDecreasingBy (λ r. first_outside (stops r)) rs → IsStrictlyIncreasing (map first_of rs)
  firsts_rise [] are up = λ k within. absurd (omega (arith, within))
  firsts_rise (r ∷ rs) are up = rise_by (r ∷ rs) r are up

  -- there are no more of them than nodes
  pub few_routes : (rs : List R) → AreApart rs → IsStrictlyIncreasing (map first_of rs) → length rs ≤ node_count g
  few_routes rs are rising =
      let below : All (λ x. x < node_count g) (map first_of rs) =
      All-map (λ x. x < node_count g) first_of rs (λ k d within. (first_customer_is (get_or rs k d) (are.below k d within) (are.some k d within)).1) in
      let few : length (map first_of rs) ≤ node_count g = few_rising (map first_of rs) (node_count g) rising below in
      rw length-map at few
