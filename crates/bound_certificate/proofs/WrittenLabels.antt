-- The written form of forbidden pairs is in its ranges: pairs rise, and they are few.
use Rattle.std.proofs.Common.{◌≡◌, ◌∙◌, ◌⊎◌, inl, inr, ℕ, zero, suc, ◌+◌, ◌*◌, ◌<◌, ◌≤◌, Bool, true, false, ◌||◌, ◌&&◌, not, List, [], ◌∷◌, ◌++◌, Option, None, Some, length, length-append, nat_eq, nat_lt, refl, sym, ap, subst, append_assoc, arith, if◌then◌else◌}
use Rattle.std.proofs.lemmas.Bool.{eq-eqb, eqb-false, false≢true, lt-ltb, ne_eqb}
use Rattle.std.proofs.Math.Nat.{mul-le-mul}
use Rattle.customer_sets.specs.Pairs.{ForbiddenPairs, allows_of, is_forbidden}
use Rattle.ev_model.specs.Network.{IsNetwork, Network}
use Rattle.ev_text.specs.Texts.{AllFrom}
use Rattle.bound_certificate.specs.Limits.{most_pairs}
use Rattle.certificate_parts.specs.Ranges.{customer_count}
use Rattle.certificate_parts.specs.Reading.{is_place}
use Rattle.bound_certificate.specs.Reading.{rises_from}
use Rattle.certificate_parts.specs.Written.{place_node}
use Rattle.bound_certificate.specs.Written.{if_forbidden, pairs_after, pairs_from, written_pairs}
use Rattle.bound_certificate.specs.WrittenRanges.{PairFits, next_pair}
use Rattle.certificate_parts.proofs.PlaceOrder.{places_in_order, same_by_node}
use Rattle.certificate_parts.proofs.WrittenParts.{or_true, place_is}
use Rattle.instance_reader.specs.Instance.{most_customers}

module _ (g : Network) (network : IsNetwork g) where
  -- pairs from a place on are above another
  abbrev IsFrom : ℕ → ℕ → ℕ → ℕ → Type 0
  IsFrom a b x y = (a < x) ⊎ ((a ≡ x) × (b ≤ y))

  abbrev IsAbove : Option (ℕ × ℕ) → ℕ → ℕ → Type 0
  IsAbove last a b = (x y : ℕ) → x ≤ customer_count g → y ≤ customer_count g → IsFrom a b x y → rises_from last (place_node g x, place_node g y) ≡ true

  above_next : (a b : ℕ) → IsAbove (Some (place_node g a, place_node g b)) a (b + 1)
  above_next a b x y first second from = elim from [
    | inl less ↦
        let lower : nat_lt (place_node g a) (place_node g x) ≡ true = lt-ltb (place_node g a) (place_node g x) (places_in_order g a x less first) in
        ap (λ c. c || (nat_eq (place_node g a) (place_node g x) && nat_lt (place_node g b) (place_node g y))) lower
    | inr h ↦
        let same : nat_eq (place_node g a) (place_node g x) ≡ true = eq-eqb (place_node g a) (place_node g x) (ap (place_node g) h.0) in
        let le = h.1 in
        let lower : nat_lt (place_node g b) (place_node g y) ≡ true = lt-ltb (place_node g b) (place_node g y) (places_in_order g b y (omega (arith, le)) second) in
        (λ i. nat_lt (place_node g a) (place_node g x) || (same i && lower i)) ∙ or_true (nat_lt (place_node g a) (place_node g x))
  ]

  above_skip : (last : Option (ℕ × ℕ)) (a b : ℕ) → IsAbove last a b → IsAbove last a (b + 1)
  above_skip last a b above x y first second from = elim from [
    | inl less ↦ above x y first second (inl less)
    | inr h ↦ let le = h.1 in above x y first second (inr (h.0, omega (arith, le)))
  ]

  above_row : (last : Option (ℕ × ℕ)) (a b : ℕ) → IsAbove last a b → IsAbove last (a + 1) 0
  above_row last a b above x y first second from = elim from [
    | inl less ↦ above x y first second (inl (omega (arith, less)))
    | inr h ↦ let same = h.0 in above x y first second (inl (omega (arith, same)))
  ]

  two_places : (b c : Bool) → (b || c) ≡ false → b ≡ false
  two_places true c is = absurd (false≢true (sym is))
  two_places false c is = refl

  pair_is : (p : ForbiddenPairs) (last : Option (ℕ × ℕ)) (a b : ℕ) → a ≤ customer_count g → b ≤ customer_count g → allows_of p a b ≡ false → IsAbove last a b → PairFits g last (place_node g a, place_node g b)
  pair_is p last a b first second forbidden above =
      let apart = two_places (nat_eq a b) (not (is_forbidden p a b)) forbidden in
      let own = place_is g network b second in
      let place : is_place g (place_node g b) ≡ true = own.1 in
      let other : nat_eq (place_node g a) (place_node g b) ≡ false = ne_eqb (place_node g a) (place_node g b) (λ same. eqb-false a b apart (same_by_node g a b first second same)) in
      let rises : rises_from last (place_node g a, place_node g b) ≡ true = above a b first second (inr (refl, omega arith)) in
      record {
        first = place_is g network a first;
        second = (own.0, (λ i. place i && (not (other i) && rises i)));
      }

  after : (p : ForbiddenPairs) (last : Option (ℕ × ℕ)) (a b more : ℕ) (rest : List (ℕ × ℕ)) → a ≤ customer_count g → b + more ≡ customer_count g + 1 → IsAbove last a b
      → ((later : Option (ℕ × ℕ)) → IsAbove later (a + 1) 0 → AllFrom (PairFits g) next_pair later rest) → AllFrom (PairFits g) next_pair last (pairs_after g p a b more ++ rest)
  after p last a b zero rest first count above behind = behind last (above_row last a b above)
  after p last a b (suc more) rest first count above behind =
      subst (AllFrom (PairFits g) next_pair last) (sym (append_assoc (if_forbidden g p a b) (pairs_after g p a (b + 1) more) rest))
      (by (allows_of p a b) refl (after p last a (b + 1) more rest first (omega (arith, count)) (above_skip last a b above) behind)
      (after p (Some (place_node g a, place_node g b)) a (b + 1) more rest first (omega (arith, count)) (above_next a b) behind))
    where
      by : (allowed : Bool) → allows_of p a b ≡ allowed → AllFrom (PairFits g) next_pair last (pairs_after g p a (b + 1) more ++ rest)
          → AllFrom (PairFits g) next_pair (Some (place_node g a, place_node g b)) (pairs_after g p a (b + 1) more ++ rest)
          → AllFrom (PairFits g) next_pair last ((if allowed then [] else (place_node g a, place_node g b) ∷ []) ++ (pairs_after g p a (b + 1) more ++ rest))
      by true is left right = left
      by false is left right = (pair_is p last a b first (omega (arith, count)) is above, right)

  from : (p : ForbiddenPairs) (last : Option (ℕ × ℕ)) (a more : ℕ) → a + more ≡ customer_count g + 1 → IsAbove last a 0 → AllFrom (PairFits g) next_pair last (pairs_from g p a more)
  from p last a zero count above = tt
  from p last a (suc more) count above =
      after p last a 0 (customer_count g + 1) (pairs_from g p (a + 1) more) (omega (arith, count)) (omega arith) above (λ later behind. from p later (a + 1) more (omega (arith, count)) behind)

  pub pairs_are : (p : ForbiddenPairs) → AllFrom (PairFits g) next_pair None (written_pairs g p)
  pairs_are p = from p None 0 (customer_count g + 1) (omega arith) (λ x y first second behind. refl)

  few_after : (p : ForbiddenPairs) (a b more : ℕ) → length (pairs_after g p a b more) ≤ more
  few_after p a b zero = omega arith
  few_after p a b (suc more) = by (allows_of p a b) (few_after p a (b + 1) more)
    where
      by : (allowed : Bool) → length (pairs_after g p a (b + 1) more) ≤ more → length ((if allowed then [] else (place_node g a, place_node g b) ∷ []) ++ pairs_after g p a (b + 1) more) ≤ suc more
      by true few = omega (arith, few)
      by false few = omega (arith, few)

  few_from : (p : ForbiddenPairs) (a more : ℕ) → length (pairs_from g p a more) ≤ more * (customer_count g + 1)
  few_from p a zero = omega arith
  few_from p a (suc more) =
      let row = few_after p a 0 (customer_count g + 1) in
      let rest = few_from p (a + 1) more in
      omega (arith, row, rest, length-append (pairs_after g p a 0 (customer_count g + 1)) (pairs_from g p (a + 1) more))

  pub few_pairs : (p : ForbiddenPairs) → customer_count g ≤ most_customers → length (written_pairs g p) ≤ most_pairs
  few_pairs p few =
      let all = few_from p 0 (customer_count g + 1) in
      let le : customer_count g + 1 ≤ 129 = omega (arith, few) in
      let square : (customer_count g + 1) * (customer_count g + 1) ≤ 129 * 129 = mul-le-mul le le in
      omega (arith, all, square)
