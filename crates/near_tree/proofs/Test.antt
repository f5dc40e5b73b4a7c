-- Tests whether a tree is one, and is accepted, level by level.
use Rattle.std.proofs.Common.{◌≡◌, ◌≢◌, ℕ, zero, suc, ◌+◌, ◌-◌, ◌*◌, ◌<◌, Bool, true, false, not, ◌&&◌, ◌||◌, refl, sym, ap, subst, List, [], ◌∷◌, length, Option, Some, None, arith, inl, inr}
use Rattle.std.specs.Int.Signed.{lt_z}
use Rattle.std.specs.List.{Contains, list_all, list_any}
use Rattle.std.specs.Prelude.{int_le, is_none, IsSome, nat_eq, nat_le, slice_index_or, ℤ, pos, ◌+ℤ◌, ◌≤ℤ◌}
use Rattle.std.proofs.lemmas.Bool.{cases_eq, eqb-true, leb-true, le-leb, ne_eqb, and_parts, and_from, or_cases, false≢true}
use Rattle.std.proofs.lemmas.Int.{ints}
use Rattle.customer_sets.specs.CustSet.{has, IsWithin}
use Rattle.ev_model.specs.Network.{curve_at, energy, is_customer, Network, node_count, scaled_limit}
use Rattle.fleet_model.specs.Coverage.{IsAsGood}
use Rattle.fleet_model.specs.Labels.{IsLevel, State, state_at}
use Rattle.fleet_model.specs.Places.{customer_count, customer_number, place_of}
use Rattle.fleet_model.specs.Steps.{at_station, IsStep, level_at, time_at}
use Rattle.fleet_model.proofs.Test.{any_to, is_as_good}
use Rattle.near_tree.specs.Bounds.{IsAccepted, IsAcceptedAt, IsBounded, leaf_sum}
use Rattle.near_tree.specs.Branches.{apart_at, at_least, at_most, Branch, together_at, whole}
use Rattle.near_tree.specs.Closed.{AreClosedAt}
use Rattle.near_tree.specs.Covered.{IsLeafCovered}
use Rattle.near_tree.specs.Follows.{entries_earned, MayFollow, StandsFor}
use Rattle.near_tree.specs.Sections.{after, anybody, Last, LeafLabel, LeafState, NearSection}
use Rattle.near_tree.specs.Steps.{at_leaf_customer, at_leaf_station, leaf_at, leaf_start}
use Rattle.near_tree.specs.Trees.{AtEachLeaf, entries, leaf, NearTree, split}

abbrev all_to : (ℕ → Bool) → ℕ → Bool
all_to test zero = true
all_to test (suc n) = all_to test n && test n

abbrev may_follow : Branch → Last → ℕ → Bool
may_follow b anybody j = true
may_follow b (after i) j = b.allows i j && not (nat_eq i 0 && nat_eq j 0)

abbrev stands_at : Branch → NearSection → Last → Last → ℕ → Bool
stands_at b s l other j =
    not (may_follow b other j)
    || (may_follow b l j && int_le (entries_earned b.counted s.entry_prices other j) (entries_earned b.counted s.entry_prices l j))

abbrev stands_for : Network → Branch → NearSection → Last → Last → Bool
stands_for g b s l other = all_to (stands_at b s l other) (customer_count g + 1)

abbrev covers_at : Network → Branch → NearSection → LeafLabel → LeafState → Bool
covers_at g b s l a =
    stands_for g b s l.last a.last && any_to (λ i. is_as_good s.weight (state_at l.label (l.label.first + i)) a.state) (length l.label.times)

abbrev is_covered : Network → Branch → NearSection → LeafState → Bool
is_covered g b s a = list_any (λ l. covers_at g b s l a) s.labels

abbrev is_step : Network → State → ℕ → Bool
is_step g a x = not (nat_eq x a.node) && nat_le (energy g a.node x + g.reserve) a.level

abbrev customer_test : Network → Branch → NearSection → LeafState → ℕ → Bool
customer_test g b s a x =
    not (is_step g a.state x && (is_customer g x && (not (has a.state.served (customer_number g x)) && (may_follow b a.last (place_of g x) && nat_le (time_at g a.state x) (scaled_limit g)))))
    || is_covered g b s (at_leaf_customer g b s a x)

abbrev station_test : Network → Branch → NearSection → LeafState → ℕ → ℕ → Bool
station_test g b s a x z =
    not (is_step g a.state x && (not (is_none (curve_at g x)) && (nat_le (level_at g a.state x) z && nat_le (at_station g a.state x z).time (scaled_limit g))))
    || is_covered g b s (at_leaf_station g a x z)

abbrev home_test : Network → Branch → NearSection → LeafState → Bool
home_test g b s a =
    not (is_step g a.state 0 && (may_follow b a.last 0 && (nat_le (energy g a.state.node 0 + g.home_level) a.state.level && nat_le (time_at g a.state 0) (scaled_limit g))))
    || int_le a.state.paid (pos (s.weight * time_at g a.state 0))

abbrev node_test : Network → Branch → NearSection → LeafState → ℕ → Bool
node_test g b s a x = customer_test g b s a x && all_to (station_test g b s a x) (g.capacity + 1)

abbrev state_test : Network → Branch → NearSection → LeafState → Bool
state_test g b s a = all_to (node_test g b s a) (node_count g) && home_test g b s a

abbrev level_test : Network → Branch → NearSection → LeafLabel → ℕ → Bool
level_test g b s l i = state_test g b s (leaf_at l (l.label.first + i))

abbrev label_test : Network → Branch → NearSection → LeafLabel → Bool
label_test g b s l = all_to (level_test g b s l) (length l.label.times)

abbrev is_closed : Network → Branch → NearSection → Bool
is_closed g b s = is_covered g b s (leaf_start g) && list_all (label_test g b s) s.labels

-- what the tests pass is so
all_at : (test : ℕ → Bool) (n i : ℕ) → all_to test n ≡ true → i < n → test i ≡ true
all_at test zero i h lt = absurd (omega (arith, lt))
all_at test (suc n) i h lt =
    let parts = and_parts (all_to test n) (test n) h in
    elim (cases_eq i n) [
      | inl same ↦ subst (λ j. test j ≡ true) (sym same) parts.1
      | inr apart ↦ all_at test n i parts.0 (omega (arith, lt, apart))
    ]

any_at : (test : ℕ → Bool) (n : ℕ) → any_to test n ≡ true → (i : ℕ) × (i < n) × (test i ≡ true)
any_at test zero h = absurd (false≢true h)
any_at test (suc n) h = elim (or_cases (any_to test n) (test n) h) [
  | inl before ↦ let found = any_at test n before in (found.0, omega (arith, found.1), found.2)
  | inr here ↦ (n, omega arith, here)
]

hold_at : (test : LeafLabel → Bool) (xs : List LeafLabel) (x : LeafLabel) (k : ℕ) → list_all test xs ≡ true → k < length xs → slice_index_or xs k x ≡ x → test x ≡ true
hold_at test [] x k h lt is = absurd (omega (arith, lt))
hold_at test (y ∷ ys) x zero h lt is = subst (λ z. test z ≡ true) is (and_parts (test y) (list_all test ys) h).0
hold_at test (y ∷ ys) x (suc k) h lt is = hold_at test ys x k (and_parts (test y) (list_all test ys) h).1 (omega (arith, lt)) is

all_hold : (test : LeafLabel → Bool) (xs : List LeafLabel) (x : LeafLabel) → list_all test xs ≡ true → Contains xs x → test x ≡ true
all_hold test xs x h c = hold_at test xs x c.0 h c.1 c.2

any_holds : (test : LeafLabel → Bool) (xs : List LeafLabel) → list_any test xs ≡ true → (x : LeafLabel) × Contains xs x × (test x ≡ true)
any_holds test [] h = absurd (false≢true h)
any_holds test (y ∷ ys) h = elim (or_cases (test y) (list_any test ys) h) [
  | inl here ↦ (y, (0, omega arith, refl), here)
  | inr later ↦ let found = any_holds test ys later in (found.0, (suc found.1.0, omega (arith, found.1.1), found.1.2), found.2)
]

implied : (a b : Bool) → (not a || b) ≡ true → a ≡ true → b ≡ true
implied true b h is = h
implied false b h is = absurd (false≢true is)

no_more : (p q : ℤ) → int_le p q ≡ true → p ≤ℤ q
no_more p q h = omega (arith, ints, h)

within : (small large : List ℕ) → list_all (has large) small ≡ true → IsWithin small large
within [] large h c is = absurd (false≢true is)
within (x ∷ xs) large h c is =
    let parts = and_parts (has large x) (list_all (has large) xs) h in
    elim (or_cases (nat_eq x c) (has xs c) is) [
      | inl here ↦ subst (λ y. has large y ≡ true) (eqb-true x c here) parts.0
      | inr later ↦ within xs large parts.1 c later
    ]

good : (w : ℕ) (a b : State) → is_as_good w a b ≡ true → IsAsGood w a b
good w a b h =
    let p1 = and_parts _ _ h in
    let p2 = and_parts _ _ p1.1 in
    let p3 = and_parts _ _ p2.1 in
    let p4 = and_parts _ _ p3.1 in
    let p5 = and_parts _ _ p4.1 in
    record {
      last = eqb-true a.last b.last p1.0;
      node = eqb-true a.node b.node p2.0;
      served = within a.served b.served p3.0;
      level = leb-true b.level a.level p4.0;
      time = leb-true a.time b.time p5.0;
      cost = no_more _ _ p5.1;
    }

home_apart : (i j : ℕ) → (i ≡ 0 → j ≢ 0) → not (nat_eq i 0 && nat_eq j 0) ≡ true
home_apart zero zero apart = absurd (apart refl refl)
home_apart zero (suc j) apart = rw (ne_eqb (suc j) 0 (λ e. omega (arith, e))) refl
home_apart (suc i) j apart = rw (ne_eqb (suc i) 0 (λ e. omega (arith, e))) refl

apart_home : (i j : ℕ) → not (nat_eq i 0 && nat_eq j 0) ≡ true → i ≡ 0 → j ≢ 0
apart_home zero zero is = absurd (false≢true is)
apart_home zero (suc j) is = λ first same. omega (arith, same)
apart_home (suc i) j is = λ first. absurd (omega (arith, first))

follows_test : (b : Branch) (l : Last) (j : ℕ) → MayFollow b l j → may_follow b l j ≡ true
follows_test b anybody j may = refl
follows_test b (after i) j may = and_from _ _ may.0 (home_apart i j may.1)

test_follows : (b : Branch) (l : Last) (j : ℕ) → may_follow b l j ≡ true → MayFollow b l j
test_follows b anybody j is = tt
test_follows b (after i) j is = let parts = and_parts _ _ is in (parts.0, apart_home i j parts.1)

stands : (g : Network) (b : Branch) (s : NearSection) (l other : Last) → stands_for g b s l other ≡ true → StandsFor g b s l other
stands g b s l other h = λ j low next.
    let here = all_at (stands_at b s l other) (customer_count g + 1) j h (omega (arith, low)) in
    let both = and_parts _ _ (implied _ _ here (follows_test b other j next)) in
    (test_follows b l j both.0, no_more _ _ both.1)

covered : (g : Network) (b : Branch) (s : NearSection) (a : LeafState) → is_covered g b s a ≡ true → IsLeafCovered g b s a
covered g b s a h =
    let found = any_holds (λ l. covers_at g b s l a) s.labels h in
    let l = found.0 in
    let both = and_parts (stands_for g b s found.0.last a.last) (any_to (λ i. is_as_good s.weight (state_at found.0.label (found.0.label.first + i)) a.state) (length found.0.label.times)) found.2 in
    let level = any_at (λ i. is_as_good s.weight (state_at found.0.label (found.0.label.first + i)) a.state) (length found.0.label.times) both.1 in (
      l,
      found.1,
      record {
        last = stands g b s l.last a.last both.0;
        state = (l.label.first + level.0, (omega arith, omega (arith, level.1)), good s.weight (state_at l.label (l.label.first + level.0)) a.state level.2);
      },
    )

steps : (g : Network) (a : State) (x : ℕ) → IsStep g a x → is_step g a x ≡ true
steps g a x step =
    let apart : nat_eq x a.node ≡ false = ne_eqb x a.node step.moves in
    let reaches : nat_le (energy g a.node x + g.reserve) a.level ≡ true = le-leb _ _ step.reaches in
    rw (apart, reaches) refl

station_there : (c : Option (List (ℕ × ℕ))) → IsSome c → not (is_none c) ≡ true
station_there None some = grind (arith, some)
station_there (Some c) some = refl

module _ (g : Network) (b : Branch) (s : NearSection) (h : is_closed g b s ≡ true) where
  at_label : (l : LeafLabel) (y : ℕ) → Contains s.labels l → IsLevel l.label y → state_test g b s (leaf_at l y) ≡ true
  at_label l y inside level =
      let parts = and_parts (is_covered g b s (leaf_start g)) (list_all (label_test g b s) s.labels) h in
      let one = all_hold (label_test g b s) s.labels l parts.1 inside in
      let same : l.label.first + (y - l.label.first) ≡ y = omega (arith, level.0) in
      subst (λ z. state_test g b s (leaf_at l z) ≡ true) same (all_at (level_test g b s l) (length l.label.times) (y - l.label.first) one (omega (arith, level.0, level.1)))

  at_node : (l : LeafLabel) (y x : ℕ) → Contains s.labels l → IsLevel l.label y → x < node_count g → node_test g b s (leaf_at l y) x ≡ true
  at_node l y x inside level known = all_at (node_test g b s (leaf_at l y)) (node_count g) x (and_parts _ _ (at_label l y inside level)).0 known

  closed : AreClosedAt g b s
  closed = record {
    begins = covered g b s (leaf_start g) (and_parts (is_covered g b s (leaf_start g)) (list_all (label_test g b s) s.labels) h).0;
    customer = λ l y x inside level step.
        let node = and_parts _ _ (at_node l y x inside level step.step.known) in
        let go = steps g (leaf_at l y).state x step.step in
        let fresh : not (has l.label.served (customer_number g x)) ≡ true = ap not step.new in
        let next = follows_test b l.last (place_of g x) step.next in
        let time = le-leb _ _ step.in_time in
        covered g b s (at_leaf_customer g b s (leaf_at l y) x) (implied _ _ node.0 (and_from _ _ go (and_from _ _ step.customer (and_from _ _ fresh (and_from _ _ next time)))));
    station = λ l y x z inside level step.
        let high : z < g.capacity + 1 = omega (arith, step.full) in
        let node = and_parts _ _ (at_node l y x inside level step.step.known) in
        let charge = all_at (station_test g b s (leaf_at l y) x) (g.capacity + 1) z node.1 high in
        let go = steps g (leaf_at l y).state x step.step in
        let there = station_there (curve_at g x) step.station in
        covered g b s (at_leaf_station g (leaf_at l y) x z) (implied _ _ charge (and_from _ _ go (and_from _ _ there (and_from _ _ (le-leb _ _ step.charges) (le-leb _ _ step.in_time)))));
    home = λ l y inside level step.
        let all = and_parts _ _ (at_label l y inside level) in
        let go = steps g (leaf_at l y).state 0 step.step in
        let next = follows_test b l.last 0 step.next in
        no_more _ _ (implied _ _ all.1 (and_from _ _ go (and_from _ _ next (and_from _ _ (le-leb _ _ step.home) (le-leb _ _ step.in_time)))));
  }

-- the same for all leaves
abbrev is_bounded : Option ℕ → Branch → NearSection → Bool
is_bounded None b s = nat_eq s.weight 0 && lt_z (pos 0) (leaf_sum b s)
is_bounded (Some bound) b s = lt_z (pos (bound * s.weight)) (leaf_sum b s +ℤ pos s.weight)

abbrev are_accepted : Network → Option ℕ → Branch → NearTree → Bool
are_accepted g bound b (leaf s) = is_closed g b s && is_bounded bound b s
are_accepted g bound b (split i j apart together) =
    are_accepted g bound (apart_at i j b) apart && are_accepted g bound (together_at i j b) together
are_accepted g bound b (entries k set few many) =
    are_accepted g bound (at_most k set b) few && are_accepted g bound (at_least k set b) many

bounded : (bound : Option ℕ) (b : Branch) (s : NearSection) → is_bounded bound b s ≡ true → IsBounded bound b s
bounded None b s h = let parts = and_parts _ _ h in (eqb-true _ _ parts.0, grind (arith, ints, parts.1))
bounded (Some bound) b s h = grind (arith, ints, h)

accepted_at : (g : Network) (bound : Option ℕ) (b : Branch) (t : NearTree) → are_accepted g bound b t ≡ true → AtEachLeaf (IsAcceptedAt g bound) b t
accepted_at g bound b (leaf s) h =
    let both = and_parts (is_closed g b s) (is_bounded bound b s) h in
    record { closed = closed g b s both.0; bounded = bounded bound b s both.1 }
accepted_at g bound b (split i j apart together) h =
    let both = and_parts (are_accepted g bound (apart_at i j b) apart) (are_accepted g bound (together_at i j b) together) h in
    (accepted_at g bound (apart_at i j b) apart both.0, accepted_at g bound (together_at i j b) together both.1)
accepted_at g bound b (entries k set few many) h =
    let both = and_parts (are_accepted g bound (at_most k set b) few) (are_accepted g bound (at_least k set b) many) h in
    (accepted_at g bound (at_most k set b) few both.0, accepted_at g bound (at_least k set b) many both.1)

pub accepted : (g : Network) (bound : Option ℕ) (t : NearTree) → are_accepted g bound whole t ≡ true → IsAccepted g bound t
accepted g bound t h = accepted_at g bound whole t h
