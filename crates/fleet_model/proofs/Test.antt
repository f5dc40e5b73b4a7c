-- A test whether a list of labels is closed, level by level.
use Rattle.std.proofs.Common.{◌≡◌, ℕ, zero, suc, ◌+◌, ◌-◌, ◌*◌, ◌<◌, ◌≤◌, Bool, true, false, not, ◌&&◌, ◌||◌, refl, sym, ap, subst, List, [], ◌∷◌, length, Option, Some, None, arith, inl, inr}
use Rattle.std.specs.List.{Contains, list_all, list_any}
use Rattle.std.specs.Prelude.{int_le, is_none, IsSome, nat_eq, nat_le, slice_index_or, ℤ, pos, ◌-ℤ◌, ◌≤ℤ◌}
use Rattle.std.proofs.lemmas.Bool.{cases_eq, eqb-true, leb-true, le-leb, ne_eqb, and_parts, and_from, or_cases, false≢true}
use Rattle.std.proofs.lemmas.Int.{ints}
use Rattle.customer_sets.specs.CustSet.{has, IsWithin}
use Rattle.ev_model.specs.Network.{curve_at, energy, is_customer, Network, node_count, scaled_limit}
use Rattle.fleet_model.specs.Places.{customer_number, place_of}
use Rattle.fleet_model.specs.Labels.{IsLevel, Label, State, state_at}
use Rattle.fleet_model.specs.Section.{Section}
use Rattle.fleet_model.specs.Coverage.{IsAsGood, IsCovered}
use Rattle.fleet_model.specs.Steps.{start, level_at, time_at, IsStep, at_customer, at_station}
use Rattle.fleet_model.specs.ClosedList.{IsClosed}

abbrev all_to : (ℕ → Bool) → ℕ → Bool
all_to test zero = true
all_to test (suc n) = all_to test n && test n

abbrev pub any_to : (ℕ → Bool) → ℕ → Bool
any_to test zero = false
any_to test (suc n) = any_to test n || test n

abbrev pub is_as_good : ℕ → State → State → Bool
is_as_good w a b =
    nat_eq a.last b.last && (nat_eq a.node b.node && (list_all (has b.served) a.served && (nat_le b.level a.level && (nat_le a.time b.time
    && int_le (pos (w * a.time) -ℤ a.paid) (pos (w * b.time) -ℤ b.paid)))))

abbrev pub is_covered : Section → State → Bool
is_covered s b = list_any (λ l. any_to (λ i. is_as_good s.weight (state_at l (l.first + i)) b) (length l.times)) s.labels

abbrev is_step : Network → State → ℕ → Bool
is_step g a x = not (nat_eq x a.node) && nat_le (energy g a.node x + g.reserve) a.level

abbrev customer_test : Network → Section → State → ℕ → Bool
customer_test g s a x =
    not (is_step g a x && (is_customer g x && (not (has a.served (customer_number g x)) && (s.allows (place_of g a.last) (place_of g x) && nat_le (time_at g a x) (scaled_limit g)))))
    || is_covered s (at_customer g s a x)

abbrev station_test : Network → Section → State → ℕ → ℕ → Bool
station_test g s a x z =
    not (is_step g a x && (not (is_none (curve_at g x)) && (nat_le (level_at g a x) z && nat_le (at_station g a x z).time (scaled_limit g))))
    || is_covered s (at_station g a x z)

abbrev home_test : Network → Section → State → Bool
home_test g s a =
    not (is_step g a 0 && (not (nat_eq a.last 0) && (s.allows (place_of g a.last) 0 && (nat_le (energy g a.node 0 + g.home_level) a.level && nat_le (time_at g a 0) (scaled_limit g)))))
    || int_le a.paid (pos (s.weight * time_at g a 0))

abbrev state_test : Network → Section → State → Bool
state_test g s a =
    all_to (λ x. customer_test g s a x && all_to (λ z. station_test g s a x z) (g.capacity + 1)) (node_count g) && home_test g s a

abbrev label_test : Network → Section → Label → Bool
label_test g s l = all_to (λ i. state_test g s (state_at l (l.first + i))) (length l.times)

abbrev pub is_closed : Network → Section → Bool
is_closed g s = is_covered s (start g) && list_all (label_test g s) s.labels

all_at : (test : ℕ → Bool) (n i : ℕ) → all_to test n ≡ true → i < n → test i ≡ true
all_at test zero i h lt = absurd (omega (arith, lt))
all_at test (suc n) i h lt =
    let parts = and_parts (all_to test n) (test n) h in
    elim (cases_eq i n) [
      | inl same ↦ subst (λ j. test j ≡ true) (sym same) parts.1
      | inr apart ↦ all_at test n i parts.0 (omega (arith, lt, apart))
    ]

any_at : (test : ℕ → Bool) (n : ℕ) → any_to test n ≡ true → (i : ℕ) × (i < n) × (test i ≡ true)
any_at test zero h = absurd (false≢true h)
any_at test (suc n) h = elim (or_cases (any_to test n) (test n) h) [
  | inl before ↦ let found = any_at test n before in (found.0, omega (arith, found.1), found.2)
  | inr here ↦ (n, omega arith, here)
]

hold_at : (test : Label → Bool) (xs : List Label) (x : Label) (k : ℕ) → list_all test xs ≡ true → k < length xs → slice_index_or xs k x ≡ x → test x ≡ true
hold_at test [] x k h lt is = absurd (omega (arith, lt))
hold_at test (y ∷ ys) x zero h lt is = subst (λ z. test z ≡ true) is (and_parts (test y) (list_all test ys) h).0
hold_at test (y ∷ ys) x (suc k) h lt is = hold_at test ys x k (and_parts (test y) (list_all test ys) h).1 (omega (arith, lt)) is

all_hold : (test : Label → Bool) (xs : List Label) (x : Label) → list_all test xs ≡ true → Contains xs x → test x ≡ true
all_hold test xs x h c = hold_at test xs x c.0 h c.1 c.2

any_holds : (test : Label → Bool) (xs : List Label) → list_any test xs ≡ true → (x : Label) × Contains xs x × (test x ≡ true)
any_holds test [] h = absurd (false≢true h)
any_holds test (y ∷ ys) h = elim (or_cases (test y) (list_any test ys) h) [
  | inl here ↦ (y, (0, omega arith, refl), here)
  | inr later ↦ let found = any_holds test ys later in (found.0, (suc found.1.0, omega (arith, found.1.1), found.1.2), found.2)
]

within : (small large : List ℕ) → list_all (has large) small ≡ true → IsWithin small large
within [] large h c is = absurd (false≢true is)
within (x ∷ xs) large h c is =
    let parts = and_parts (has large x) (list_all (has large) xs) h in
    elim (or_cases (nat_eq x c) (has xs c) is) [
      | inl here ↦ subst (λ y. has large y ≡ true) (eqb-true x c here) parts.0
      | inr later ↦ within xs large parts.1 c later
    ]

no_more : (p q : ℤ) → int_le p q ≡ true → p ≤ℤ q
no_more p q h = omega (arith, ints, h)

good : (w : ℕ) (a b : State) → is_as_good w a b ≡ true → IsAsGood w a b
good w a b h =
    let p1 = and_parts _ _ h in
    let p2 = and_parts _ _ p1.1 in
    let p3 = and_parts _ _ p2.1 in
    let p4 = and_parts _ _ p3.1 in
    let p5 = and_parts _ _ p4.1 in
    record {
      last = eqb-true a.last b.last p1.0;
      node = eqb-true a.node b.node p2.0;
      served = within a.served b.served p3.0;
      level = leb-true b.level a.level p4.0;
      time = leb-true a.time b.time p5.0;
      cost = no_more _ _ p5.1;
    }

pub covered : (s : Section) (b : State) → is_covered s b ≡ true → IsCovered s b
covered s b h =
    let found = any_holds (λ l. any_to (λ i. is_as_good s.weight (state_at l (l.first + i)) b) (length l.times)) s.labels h in
    let l = found.0 in
    let level = any_at (λ i. is_as_good s.weight (state_at found.0 (found.0.first + i)) b) (length found.0.times) found.2 in
    (l, found.1, (l.first + level.0, (omega arith, omega (arith, level.1)), good s.weight (state_at l (l.first + level.0)) b level.2))

steps : (g : Network) (a : State) (x : ℕ) → IsStep g a x → is_step g a x ≡ true
steps g a x step =
    let apart : nat_eq x a.node ≡ false = ne_eqb x a.node step.moves in
    let reaches : nat_le (energy g a.node x + g.reserve) a.level ≡ true = le-leb _ _ step.reaches in
    rw (apart, reaches) refl

station_there : (c : Option (List (ℕ × ℕ))) → IsSome c → not (is_none c) ≡ true
station_there None some = grind (arith, some)
station_there (Some c) some = refl

implied : (a b : Bool) → (not a || b) ≡ true → a ≡ true → b ≡ true
implied true b h is = h
implied false b h is = absurd (false≢true is)

at_label : (g : Network) (s : Section) (l : Label) (y : ℕ) → is_closed g s ≡ true → Contains s.labels l → IsLevel l y → state_test g s (state_at l y) ≡ true
at_label g s l y h inside level =
    let parts = and_parts (is_covered s (start g)) (list_all (label_test g s) s.labels) h in
    let one = all_hold (label_test g s) s.labels l parts.1 inside in
    let same : l.first + (y - l.first) ≡ y = omega (arith, level.0) in
    subst (λ z. state_test g s (state_at l z) ≡ true) same (all_at (λ i. state_test g s (state_at l (l.first + i))) (length l.times) (y - l.first) one (omega (arith, level.0, level.1)))

up_to : (z full : ℕ) → z ≤ full → z < full + 1
up_to z full le = omega (arith, le)

-- what the test passes is closed
pub closed : (g : Network) (s : Section) → is_closed g s ≡ true → IsClosed g s
closed g s h = record {
  begins = covered s (start g) (and_parts (is_covered s (start g)) (list_all (label_test g s) s.labels) h).0;
  customer = λ l y x inside level step.
      let all = and_parts _ _ (at_label g s l y h inside level) in
      let node = and_parts _ _ (all_at (λ x. customer_test g s (state_at l y) x && all_to (λ z. station_test g s (state_at l y) x z) (g.capacity + 1)) (node_count g) x all.0 step.step.known) in
      let go = steps g (state_at l y) x step.step in
      let fresh : not (has l.served (customer_number g x)) ≡ true = ap not step.new in
      let time = le-leb _ _ step.in_time in
      covered s (at_customer g s (state_at l y) x) (implied _ _ node.0 (and_from _ _ go (and_from _ _ step.customer (and_from _ _ fresh (and_from _ _ step.allowed time)))));
  station = λ l y x z inside level step.
      let all = and_parts _ _ (at_label g s l y h inside level) in
      let node = and_parts _ _ (all_at (λ x. customer_test g s (state_at l y) x && all_to (λ z. station_test g s (state_at l y) x z) (g.capacity + 1)) (node_count g) x all.0 step.step.known) in
      let charge = all_at (λ z. station_test g s (state_at l y) x z) (g.capacity + 1) z node.1 (up_to z g.capacity step.full) in
      let go = steps g (state_at l y) x step.step in
      let there = station_there (curve_at g x) step.station in
      covered s (at_station g (state_at l y) x z) (implied _ _ charge (and_from _ _ go (and_from _ _ there (and_from _ _ (le-leb _ _ step.charges) (le-leb _ _ step.in_time)))));
  home = λ l y inside level step.
      let all = and_parts _ _ (at_label g s l y h inside level) in
      let go = steps g (state_at l y) 0 step.step in
      let served : not (nat_eq l.last 0) ≡ true = ap not (ne_eqb l.last 0 step.some) in
      no_more _ _ (implied _ _ all.1 (and_from _ _ go (and_from _ _ served (and_from _ _ step.allowed (and_from _ _ (le-leb _ _ step.home) (le-leb _ _ step.in_time))))));
}
