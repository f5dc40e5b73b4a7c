-- A list is closed exactly where no rule is broken.
use Rattle.std.proofs.Common.{◌≡◌, ◌∙◌, ℕ, zero, suc, ◌+◌, ◌-◌, ◌*◌, ◌<◌, Bool, true, refl, sym, ap, subst, List, [], ◌∷◌, length, Option, Some, None, arith, ◌⊎◌, ◌↔◌, inl, inr}
use Rattle.std.specs.List.{Contains, list_all, list_any}
use Rattle.std.specs.Prelude.{int_le, nat_eq, slice_get, slice_index_or, ℤ, pos, ◌≤ℤ◌}
use Rattle.std.proofs.lemmas.Bool.{cases_Bool, cases_eq, eq-eqb, le-leb, and_from, or_left, or_right, false≢true}
use Rattle.std.proofs.lemmas.Int.{ints}
use Rattle.customer_sets.specs.CustSet.{has, IsWithin}
use Rattle.ev_model.specs.Network.{Network}
use Rattle.fleet_model.specs.Labels.{Label, State, state_at}
use Rattle.fleet_model.specs.Section.{Section}
use Rattle.fleet_model.specs.Coverage.{IsAsGood, IsCovered}
use Rattle.fleet_model.specs.Steps.{start, time_at, at_customer, at_station}
use Rattle.fleet_model.specs.ClosedList.{IsClosed}
use Rattle.fleet_model.specs.ClosedListRules.{at_home, at_start, at_step, ClosedFault, IsFault}
use Rattle.fleet_model.proofs.Bounds.{cases_less}
use Rattle.fleet_model.proofs.Test.{any_to, covered, is_as_good, is_covered}

-- the test of coverage passes on what is covered
any_there : (test : ℕ → Bool) (n i : ℕ) → i < n → test i ≡ true → any_to test n ≡ true
any_there test zero i lt is = absurd (omega (arith, lt))
any_there test (suc n) i lt is = elim (cases_eq i n) [
  | inl same ↦ or_right (any_to test n) (test n) (subst (λ j. test j ≡ true) same is)
  | inr apart ↦ or_left (any_to test n) (test n) (any_there test n i (omega (arith, lt, apart)) is)
]

any_at : (test : Label → Bool) (xs : List Label) (x : Label) (k : ℕ) → k < length xs → slice_index_or xs k x ≡ x → test x ≡ true → list_any test xs ≡ true
any_at test [] x k lt at is = absurd (omega (arith, lt))
any_at test (y ∷ ys) x zero lt at is = or_left (test y) (list_any test ys) (subst (λ z. test z ≡ true) (sym at) is)
any_at test (y ∷ ys) x (suc k) lt at is = or_right (test y) (list_any test ys) (any_at test ys x k (omega (arith, lt)) at is)

within_all : (small large : List ℕ) → IsWithin small large → list_all (has large) small ≡ true
within_all [] large within = refl
within_all (x ∷ xs) large within =
    let here : has (x ∷ xs) x ≡ true = or_left (nat_eq x x) (has xs x) (eq-eqb x x refl) in
    and_from (has large x) (list_all (has large) xs) (within x here) (within_all xs large (λ c is. within c (or_right (nat_eq x c) (has xs c) is)))

no_more : (p q : ℤ) → p ≤ℤ q → int_le p q ≡ true
no_more p q le = elim (cases_Bool (int_le p q)) [
  | inl is ↦ is
  | inr other ↦ absurd (omega (arith, ints, le, other))
]

passes : (w : ℕ) (a b : State) → IsAsGood w a b → is_as_good w a b ≡ true
passes w a b good =
    and_from _ _ (eq-eqb a.last b.last good.last) (and_from _ _ (eq-eqb a.node b.node good.node) (and_from _ _ (within_all a.served b.served good.served)
    (and_from _ _ (le-leb b.level a.level good.level) (and_from _ _ (le-leb a.time b.time good.time) (no_more _ _ good.cost)))))

covered_passes : (s : Section) (b : State) → IsCovered s b → is_covered s b ≡ true
covered_passes s b h =
    let l = h.0 in
    let y = h.2.0 in
    let same : l.first + (y - l.first) ≡ y = omega (arith, h.2.1.0) in
    let good = passes s.weight (state_at l y) b h.2.2 in
    let at : is_as_good s.weight (state_at l (l.first + (y - l.first))) b ≡ true = rw same good in
    let level = any_there (λ i. is_as_good s.weight (state_at h.0 (h.0.first + i)) b) (length l.times) (y - l.first) (omega (arith, h.2.1.0, h.2.1.1)) at in
    any_at (λ k. any_to (λ i. is_as_good s.weight (state_at k (k.first + i)) b) (length k.times)) s.labels l h.1.0 h.1.1 h.1.2 level

-- coverage can be decided
is_or_not : (s : Section) (b : State) → IsCovered s b ⊎ (IsCovered s b → ⊥)
is_or_not s b = elim (cases_Bool (is_covered s b)) [
  | inl is ↦ inl (covered s b is)
  | inr other ↦ inr (λ h. false≢true (sym other ∙ covered_passes s b h))
]

-- what is not uncovered is covered
covered_unless : (s : Section) (b : State) → ((IsCovered s b → ⊥) → ⊥) → IsCovered s b
covered_unless s b h = elim (is_or_not s b) [
  | inl is ↦ is
  | inr other ↦ absurd (h other)
]

given : {X : Type 0} → X → Option X → X
given d None = d
given d (Some x) = x

-- the labels by their numbers
number_in : (xs : List Label) (x : Label) (k : ℕ) → k < length xs → slice_index_or xs k x ≡ x → slice_get xs k ≡ Some x
number_in [] x k lt at = absurd (omega (arith, lt))
number_in (y ∷ ys) x zero lt at = ap Some at
number_in (y ∷ ys) x (suc k) lt at = number_in ys x k (omega (arith, lt)) at

inside : (xs : List Label) (n : ℕ) (x : Label) → slice_get xs n ≡ Some x → Contains xs x
unfolding given
inside [] n x is = absurd (grind (arith, is))
inside (y ∷ ys) zero x is = (0, omega arith, ap (given x) is)
inside (y ∷ ys) (suc n) x is = let rest = inside ys n x is in (suc rest.0, omega (arith, rest.1), rest.2)

no_fault : (g : Network) (s : Section) → IsClosed g s → (fault : ClosedFault) → IsFault g s fault → ⊥
no_fault g s closed at_start broken = broken closed.begins
no_fault g s closed (at_step n x) broken = elim broken.2.2 [
  | inl customer ↦ customer.1 (closed.customer broken.0 broken.2.0 x (inside s.labels n broken.0 broken.1) broken.2.1 customer.0)
  | inr station ↦ station.2 (closed.station broken.0 broken.2.0 x station.0 (inside s.labels n broken.0 broken.1) broken.2.1 station.1)
]
no_fault g s closed (at_home n) broken =
    let free = closed.home broken.0 broken.2.0 (inside s.labels n broken.0 broken.1) broken.2.1 broken.2.2 in
    omega (arith, ints, free, broken.2.3)

closed_unless : (g : Network) (s : Section) → ((fault : ClosedFault) → IsFault g s fault → ⊥) → IsClosed g s
closed_unless g s none = record {
  begins = covered_unless s (start g) (none at_start);
  customer = λ l y x is level step. covered_unless s (at_customer g s (state_at l y) x)
      (λ missed. none (at_step is.0 x) (l, number_in s.labels l is.0 is.1 is.2, (y, level, inl (step, missed))));
  station = λ l y x z is level step. covered_unless s (at_station g (state_at l y) x z)
      (λ missed. none (at_step is.0 x) (l, number_in s.labels l is.0 is.1 is.2, (y, level, inr (z, step, missed))));
  home = λ l y is level step. elim (cases_less (pos (s.weight * time_at g (state_at l y) 0)) l.paid) [
    | inl less ↦ absurd (none (at_home is.0) (l, number_in s.labels l is.0 is.1 is.2, (y, level, step, less)))
    | inr fine ↦ fine
  ];
}

pub closed_by_rules : (g : Network) (s : Section) → IsClosed g s ↔ ((fault : ClosedFault) → IsFault g s fault → ⊥)
closed_by_rules g s = (no_fault g s, closed_unless g s)
