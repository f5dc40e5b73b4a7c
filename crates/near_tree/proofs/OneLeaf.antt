-- A near proof that counts nothing is a tree of one leaf, accepted where the proof is.
use Rattle.std.proofs.Common.{◌≡◌, ◌∙◌, ℕ, zero, suc, ◌*◌, ◌<◌, true, false, refl, sym, ap, subst, List, [], ◌∷◌, length, map, Option, Some, None, arith, inl, inr}
use Rattle.std.specs.List.{Contains}
use Rattle.std.specs.Prelude.{is_none, IsSome, slice_index_or, ℤ, pos, ◌+ℤ◌, ◌≤ℤ◌}
use Rattle.std.proofs.lemmas.Bool.{cases_Bool}
use Rattle.std.proofs.lemmas.Int.{ints}
use Rattle.std.proofs.lemmas.List.{length-map}
use Rattle.std.proofs.lemmas.List.Sums.{sum_by-cons}
use Rattle.ev_model.specs.Network.{curve_at, is_customer, Network, node_count}
use Rattle.fleet_model.specs.Labels.{IsLevel}
use Rattle.fleet_model.specs.Places.{customer_number, place_of}
use Rattle.fleet_model.specs.Prices.{price_of as integer_price, price_total as integer_total}
use Rattle.fleet_model.specs.Steps.{level_at, time_at}
use Rattle.fleet_model.proofs.Counts.{number_less}
use Rattle.fleet_model.proofs.Numbers.{counted}
use Rattle.near_proof.specs.Accepted.{BoundHolds, IsAccepted as IsAcceptedNear, terms_of}
use Rattle.near_proof.specs.Closed.{AreClosed}
use Rattle.near_proof.specs.Covered.{IsNearCovered}
use Rattle.near_proof.specs.Ranges.{NearFits}
use Rattle.near_proof.specs.States.{label_of, near_at, near_start, NearState}
use Rattle.near_proof.specs.Steps.{at_near_customer, IsNearCustomerStep, IsNearHomeStep}
use Rattle.near_proof.specs.Terms.{price_of, price_total, remembered}
use Rattle.near_proof.specs.declared.proof.NearLabel.{NearLabel}
use Rattle.near_proof.specs.declared.proof.NearProof.{NearProof}
use Rattle.near_proof.proofs.Fits.{within_full}
use Rattle.near_tree.specs.Bounds.{IsAccepted, IsBounded}
use Rattle.near_tree.specs.Branches.{whole}
use Rattle.near_tree.specs.Closed.{AreClosedAt}
use Rattle.near_tree.specs.Covered.{AreWithinFullAt, IsLeafCovered}
use Rattle.near_tree.specs.Follows.{StandsFor}
use Rattle.near_tree.specs.OneLeaf.{as_leaf_label, as_section, CountsNothing, last_at, one_leaf}
use Rattle.near_tree.specs.Sections.{after, anybody, Last, LeafLabel, NearSection}
use Rattle.near_tree.specs.Steps.{at_leaf_customer, at_leaf_station, IsLeafCustomerStep, IsLeafHomeStep, IsLeafStationStep, leaf_at, leaf_start}
use Rattle.near_tree.specs.Trees.{IsTreeAt}
use Rattle.near_tree.proofs.Stands.{anybody_stands, stands_self}

-- elements of a list and those that a function makes of them
made_of : (f : NearLabel → LeafLabel) (xs : List NearLabel) (x : NearLabel) → Contains xs x → Contains (map f xs) (f x)
made_of f [] x there = absurd (omega (arith, there.1))
made_of f (y ∷ ys) x (zero, low, is) = (0, omega arith, ap f is)
made_of f (y ∷ ys) x (suc k, low, is) =
    let rest = made_of f ys x (k, omega (arith, low), is) in
    (suc rest.0, omega (arith, rest.1), rest.2)

record IsMade (f : NearLabel → LeafLabel) (xs : List NearLabel) (l : LeafLabel) : Type 0 where
  near : NearLabel
  there : Contains xs near
  same : f near ≡ l

of_which : (f : NearLabel → LeafLabel) (xs : List NearLabel) (l : LeafLabel) (k : ℕ) → k < length (map f xs) → slice_index_or (map f xs) k l ≡ l → IsMade f xs l
of_which f [] l k low is = absurd (omega (arith, low))
of_which f (y ∷ ys) l zero low is = record { near = y; there = (0, omega arith, refl); same = is }
of_which f (y ∷ ys) l (suc k) low is =
    let rest = of_which f ys l k (omega (arith, low)) is in
    record { near = rest.near; there = (suc rest.there.0, omega (arith, rest.there.1), rest.there.2); same = rest.same }

-- price sums of naturals among those of integers
price_is : (prices : List ℕ) (c : ℕ) → integer_price (map pos prices) c ≡ pos (price_of prices c)
price_is [] c = refl
price_is (price ∷ prices) zero = refl
price_is (price ∷ prices) (suc c) = price_is prices c

total_is : (prices : List ℕ) → integer_total (map pos prices) ≡ pos (price_total prices)
total_is [] = refl
total_is (price ∷ prices) =
    let rest = total_is prices in
    let more = sum_by-cons (λ (p : ℕ). p) price prices in
    omega (arith, ints, rest, more)

-- the lasts of labels
pub last_of_customer : (g : Network) (x : ℕ) → is_customer g x ≡ true → last_at g x ≡ after (place_of g x)
last_of_customer g x is = rw is refl

none_here : (c : Option (List (ℕ × ℕ))) → IsSome c → is_none c ≡ false
none_here None some = grind (arith, some)
none_here (Some c) some = refl

no_customer : (g : Network) (x : ℕ) → IsSome (curve_at g x) → is_customer g x ≡ false
no_customer g x some =
    let none = none_here (curve_at g x) some in
    grind (arith, none)

pub last_of_station : (g : Network) (x : ℕ) → IsSome (curve_at g x) → last_at g x ≡ anybody
last_of_station g x some = rw (no_customer g x some, none_here (curve_at g x) some) refl

pub stands_at_depot : (g : Network) (s : NearSection) → StandsFor g whole s (last_at g 0) (after 0)
stands_at_depot g s = elim (cases_Bool (is_none (curve_at g 0))) [
  | inl none ↦
      let is : last_at g 0 ≡ after 0 = rw none refl in
      subst (λ l. StandsFor g whole s l (after 0)) (sym is) (stands_self g whole s (after 0))
  | inr some ↦
      let is : last_at g 0 ≡ anybody = rw some refl in
      subst (λ l. StandsFor g whole s l (after 0)) (sym is) (anybody_stands g whole s (after 0))
]

module _ (g : Network) (p : NearProof) where
  -- what is covered by a near label is covered by it with its last, where that stands for the state's
  covered_too : (a : NearState) (last : Last) → IsNearCovered p.weight p.labels a → ((l : NearLabel) → l.node ≡ a.state.node → StandsFor g whole (as_section g p) (last_at g l.node) last)
      → IsLeafCovered g whole (as_section g p) (record { last = last; state = a.state })
  covered_too a last covered stands =
      let l = covered.0 in
      let by = covered.2.1 in (
        as_leaf_label g l,
        made_of (as_leaf_label g) p.labels l covered.1,
        record {
          last = stands l by.2.node;
          state = by;
        },
      )

  module _ (counts : CountsNothing p) (closed : AreClosed g (terms_of p) p.labels) where
    begins : IsLeafCovered g whole (as_section g p) (leaf_start g)
    begins = covered_too (near_start g) (after 0) closed.begins (λ l at.
        subst (λ x. StandsFor g whole (as_section g p) (last_at g x) (after 0)) (sym at) (stands_at_depot g (as_section g p)))

    customer : (l : NearLabel) (y x : ℕ) → Contains p.labels l → IsLevel (label_of l) y → IsLeafCustomerStep g whole (leaf_at (as_leaf_label g l) y) x
        → IsLeafCovered g whole (as_section g p) (at_leaf_customer g whole (as_section g p) (leaf_at (as_leaf_label g l) y) x)
    customer l y x there level step =
        let less = number_less g x (node_count g) step.customer step.step.known in
        let taken : IsNearCustomerStep g (near_at l y) x = record {
          step = step.step;
          customer = step.customer;
          new = step.new;
          fewer = omega (arith, counts l there, less);
          in_time = step.in_time;
        } in
        let reached = covered_too (at_near_customer g (terms_of p) (near_at l y) x) (after (place_of g x)) (closed.customer l y x there level taken) (λ m at.
        subst (λ z. StandsFor g whole (as_section g p) (last_at g z) (after (place_of g x))) (sym at)
        (subst (λ k. StandsFor g whole (as_section g p) k (after (place_of g x))) (sym (last_of_customer g x step.customer)) (stands_self g whole (as_section g p) (after (place_of g x))))) in
        let price = price_is p.prices (customer_number g x) in
        let paid : pos (price_of p.prices (customer_number g x)) +ℤ pos l.earned ≡ (integer_price (map pos p.prices) (customer_number g x) +ℤ pos 0) +ℤ pos l.earned = omega (arith, ints, price) in
        subst (λ (e : ℤ). IsLeafCovered g whole (as_section g p) (record {
          last = after (place_of g x);
          state = record {
            last = 0;
            node = x;
            served = remembered p.sets l.memory (customer_number g x);
            paid = e;
            level = level_at g (near_at l y).state x;
            time = time_at g (near_at l y).state x;
          };
        })) paid reached

    all_closed : AreClosedAt g whole (as_section g p)
    all_closed = record {
      begins = begins;
      customer = λ l y x there level step.
          let made = of_which (as_leaf_label g) p.labels l there.0 there.1 there.2 in
          subst (λ (k : LeafLabel). IsLevel k.label y → IsLeafCustomerStep g whole (leaf_at k y) x → IsLeafCovered g whole (as_section g p) (at_leaf_customer g whole (as_section g p) (leaf_at k y) x))
          made.same (customer made.near y x made.there) level step;
      station = λ l y x z there level step.
          let made = of_which (as_leaf_label g) p.labels l there.0 there.1 there.2 in
          let m = made.near in
          subst (λ (k : LeafLabel). IsLevel k.label y → IsLeafCovered g whole (as_section g p) (at_leaf_station g (leaf_at k y) x z))
          made.same (λ own. covered_too _ (last_at g m.node)
          (closed.station m y x z made.there own (subst (λ (k : LeafLabel). IsLeafStationStep g (leaf_at k y) x z) (sym made.same) step))
          (λ k at. subst (λ w. StandsFor g whole (as_section g p) (last_at g w) (last_at g m.node)) (sym at)
          (subst (λ w. StandsFor g whole (as_section g p) w (last_at g m.node)) (sym (last_of_station g x step.station)) (anybody_stands g whole (as_section g p) (last_at g m.node))))) level;
      home = λ l y there level step.
          let made = of_which (as_leaf_label g) p.labels l there.0 there.1 there.2 in
          subst (λ (k : LeafLabel). IsLevel k.label y → IsLeafHomeStep g whole (leaf_at k y) → k.label.paid ≤ℤ pos (p.weight * time_at g (leaf_at k y).state 0))
          made.same (λ own go.
          let taken : IsNearHomeStep g (near_at made.near y) = record { step = go.step; home = go.home; in_time = go.in_time } in
          let pays = closed.home made.near y made.there own taken in
          omega (arith, ints, pays)) level step;
    }

bounded : (g : Network) (p : NearProof) (bound : Option ℕ) → BoundHolds p bound → IsBounded bound whole (as_section g p)
bounded g p None (none, some, tight) = (none, omega (arith, ints, total_is p.prices, some))
bounded g p (Some bound) (one, same) =
    let unit : bound * p.weight ≡ bound = rw one (omega arith) in
    omega (arith, ints, total_is p.prices, one, same, unit)

full_too : (g : Network) (p : NearProof) → NearFits g p → AreWithinFullAt g (as_section g p)
full_too g p fits l y there level =
    let made = of_which (as_leaf_label g) p.labels l there.0 there.1 there.2 in
    within_full g p fits made.near y made.there (subst (λ (k : LeafLabel). IsLevel k.label y) (sym made.same) level)

pub is_one_leaf : (g : Network) (p : NearProof) → NearFits g p → IsTreeAt g whole (one_leaf g p)
is_one_leaf g p fits = record {
  one_price = length-map p.prices pos ∙ fits.one_price ∙ counted g;
  one_set = fits.sets.one_set ∙ counted g;
  one_entry_price = refl;
  full = full_too g p fits;
}

pub accepted_one_leaf : (g : Network) (p : NearProof) → CountsNothing p → IsAcceptedNear g p → IsAccepted g p.bound (one_leaf g p)
accepted_one_leaf g p counts accepted = record {
  closed = all_closed g p counts accepted.closed;
  bounded = bounded g p p.bound accepted.bound;
}
