-- Under decided pairs two routes that share a customer serve the same customers in the same order.
use Rattle.std.proofs.Common.{◌≡◌, ◌≢◌, ℕ, zero, suc, ◌+◌, ◌<◌, ◌≤◌, Bool, true, false, ◌&&◌, refl, sym, arith, List, [], ◌∷◌, ◌++◌, map, length, nat_eq, inl, inr}
use Rattle.std.specs.Prelude.{if◌then◌else◌}
use Rattle.std.proofs.lemmas.Bool.{cases_eq, eq-eqb, false≢true, ne_eqb}
use Rattle.customer_sets.specs.Pairs.{allows_of, ForbiddenPairs, IsDecided, IsNarrowedBy, require}
use Rattle.ev_model.specs.Fleet.{customers_of, times_in}
use Rattle.ev_model.specs.Network.{is_customer, Network, node_count}
use Rattle.ev_model.specs.Route.{route_of}
use Rattle.ev_model.specs.declared.Stop.{Stop}
use Rattle.fleet_model.specs.Pairs.{KeepsPairs}
use Rattle.fleet_model.specs.Places.{customer_number, place_of}
use Rattle.fleet_model.proofs.Counts.{AreCustomers, number_apart, number_less}
use Rattle.fleet_model.proofs.Fleets.{plan_below}
use Rattle.fleet_model.proofs.Numbers.{counted}
use Rattle.fleet_model.proofs.Plans.{filtered}
use Rattle.fleet_model.proofs.Weighed.{AreBelow}
use Rattle.instance_reader.specs.Instance.{customer_nodes}
use Rattle.column_pool.specs.Columns.{IsNodeRoute}
use Rattle.column_pool.proofs.OneWay.{HasOneWay, IsWay, one_way, Stands}

and_false : (b : Bool) → (b && false) ≡ false
and_false true = refl
and_false false = refl

-- what requiring a pair forbids
other_follower : (allows : ℕ → ℕ → Bool) (i j y : ℕ) → i ≢ y → y ≢ j → require i j allows i y ≡ false
other_follower allows i j y apart other = rw (ne_eqb i y apart, eq-eqb i i refl, ne_eqb y j other) (and_false (allows i y))

other_leader : (allows : ℕ → ℕ → Bool) (i j x : ℕ) → x ≢ j → x ≢ i → require i j allows x j ≡ false
other_leader allows i j x apart other = rw (ne_eqb x j apart, ne_eqb x i other, eq-eqb j j refl) (and_false (allows x j))

-- a customer of the network
abbrev pub IsKnown : Network → ℕ → Type 0
IsKnown g node = (is_customer g node ≡ true) × (node < node_count g)

abbrev pub next_of : Network → ForbiddenPairs → ℕ → ℕ → Bool
next_of g p a b = allows_of p (place_of g a) (place_of g b)

placed : (g : Network) (a : ℕ) → is_customer g a ≡ true → place_of g a ≡ customer_number g a + 1
placed g a is = rw is refl

place_apart : (g : Network) (a b : ℕ) → is_customer g a ≡ true → is_customer g b ≡ true → a ≢ b → place_of g a ≢ place_of g b
place_apart g a b is_a is_b apart same =
    let first = placed g a is_a in
    let second = placed g b is_b in
    number_apart g a b is_a is_b apart (omega (arith, first, second, same))

module _ (g : Network) (p : ForbiddenPairs) (count : p.customers ≡ length (customer_nodes g)) where
  some_place : (a : ℕ) → IsKnown g a → 0 < place_of g a
  some_place a is = let place = placed g a is.0 in omega (arith, place)

  place_within : (a : ℕ) → IsKnown g a → place_of g a ≤ p.customers
  place_within a is =
      let place = placed g a is.0 in
      let less = number_less g a (node_count g) is.0 is.1 in
      let all = counted g in
      omega (arith, place, less, all, count)

  narrowed : IsDecided p → (a b : ℕ) → IsKnown g a → IsKnown g b → a ≢ b → next_of g p a b ≡ true → IsNarrowedBy p (place_of g a) (place_of g b) → ⊥
  narrowed decided a b is_a is_b apart leads =
      decided (place_of g a) (some_place a is_a) (place_within a is_a) (place_of g b) (some_place b is_b) (place_within b is_b) (place_apart g a b is_a.0 is_b.0 apart) leads

  pub decided_way : IsDecided p → HasOneWay (IsKnown g) (next_of g p)
  decided_way decided = record {
    follower = λ a b c is_a is_b apart leads is_c other also. elim (cases_eq b c) [
      | inl same ↦ same
      | inr differs ↦ absurd (narrowed decided a b is_a is_b apart leads (
        place_of g a,
        place_of g c,
        place_within a is_a,
        place_within c is_c,
        also,
        other_follower (allows_of p) (place_of g a) (place_of g b) (place_of g c) (place_apart g a c is_a.0 is_c.0 other) (place_apart g c b is_c.0 is_b.0 (λ e. differs (sym e))),
      ))
    ];
    not_last = λ a b is_a is_b apart leads last. narrowed decided a b is_a is_b apart leads (
      place_of g a,
      0,
      place_within a is_a,
      omega arith,
      last,
      other_follower (allows_of p) (place_of g a) (place_of g b) 0 (λ e. (let s = some_place a is_a in omega (arith, e, s))) (λ e. (let s = some_place b is_b in omega (arith, e, s))),
    );
    leader = λ a b c is_a is_b apart leads is_c other also. elim (cases_eq a c) [
      | inl same ↦ same
      | inr differs ↦ absurd (narrowed decided a b is_a is_b apart leads (
        place_of g c,
        place_of g b,
        place_within c is_c,
        place_within b is_b,
        also,
        other_leader (allows_of p) (place_of g a) (place_of g b) (place_of g c) (place_apart g c b is_c.0 is_b.0 other) (place_apart g c a is_c.0 is_a.0 (λ e. differs (sym e))),
      ))
    ];
    not_first = λ a b is_a is_b apart leads first. narrowed decided a b is_a is_b apart leads (
      0,
      place_of g b,
      omega arith,
      place_within b is_b,
      first,
      other_leader (allows_of p) (place_of g a) (place_of g b) 0 (λ e. (let s = some_place b is_b in omega (arith, e, s))) (λ e. (let s = some_place a is_a in omega (arith, e, s))),
    );
  }

module _ (g : Network) (p : ForbiddenPairs) where
  -- a route of different customers that keeps the pairs is such a way
  way_from : (a : ℕ) (xs : List ℕ) → KeepsPairs (allows_of p) (place_of g a ∷ map (place_of g) xs ++ 0 ∷ []) → AreCustomers g xs → AreBelow (node_count g) xs
      → ((x : ℕ) → is_customer g x ≡ true → times_in (a ∷ xs) x ≤ 1) → IsWay (IsKnown g) (next_of g p) a xs
  way_from a [] keeps are below once = keeps.0
  way_from a (x ∷ xs) keeps are below once = (
    (λ same.
        let twice : (if nat_eq a x then 1 else 0) + ((if nat_eq x x then 1 else 0) + times_in xs x) ≤ 1 = once x are.0 in
        let more : 1 + (1 + times_in xs x) ≤ 1 = rw (eq-eqb a x same, eq-eqb x x refl) at twice in
        omega (arith, more)),
    (are.0, below.0),
    keeps.0,
    way_from x xs keeps.1 are.1 below.1 (λ y is. (let m = once y is in omega (arith, m))),
  )

  depot_first : (xs : List ℕ) (x : ℕ) → is_customer g x ≡ true → times_in (0 ∷ xs) x ≡ times_in xs x
  depot_first xs zero is = absurd (false≢true is)
  depot_first xs (suc x) is =
      let apart : nat_eq 0 (suc x) ≡ false = ne_eqb 0 (suc x) (λ e. (let z : 0 ≡ suc x = e in omega (arith, z))) in
      rw apart (omega arith)

  pub way_of : (stops : List Stop) → IsNodeRoute g p stops → IsWay (IsKnown g) (next_of g p) 0 (customers_of g stops)
  way_of stops is =
      way_from 0 (customers_of g stops) is.keeps (filtered g (route_of stops)) (plan_below g 1 g.capacity stops is.route.feasible)
      (λ x customer. (let few = is.route.once x customer in let same = depot_first (customers_of g stops) x customer in omega (arith, few, same)))

  pub one_order : IsDecided p → p.customers ≡ length (customer_nodes g) → (d : ℕ) (stops others : List Stop) → IsNodeRoute g p stops → IsNodeRoute g p others
      → Stands d (customers_of g stops) → Stands d (customers_of g others) → customers_of g stops ≡ customers_of g others
  one_order decided count d stops others first second there here =
      one_way (IsKnown g) (next_of g p) (decided_way g p count decided) d (customers_of g stops) (customers_of g others) (way_of stops first) (way_of others second) there here
