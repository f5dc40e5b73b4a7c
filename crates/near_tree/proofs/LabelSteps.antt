-- What the states of a value on arriving say of the steps from a label.
use Rattle.std.proofs.Common.{◌≡◌, ◌≢◌, ◌∙◌, ℕ, ◌+◌, ◌-◌, ◌<◌, ◌≤◌, Bool, true, false, List, Option, None, Some, refl, sym, ap, subst, arith, inl, inr, ◌+ℤ◌}
use Rattle.std.specs.Prelude.{is_none, IsSome, if◌then◌else◌}
use Rattle.std.proofs.lemmas.Bool.{cases_Bool, false≢true, ltb-true}
use Rattle.certificate_parts.specs.Ranges.{customer_count}
use Rattle.customer_sets.specs.CustSet.{has}
use Rattle.dominance.specs.LevelTimes.{IsLevel, time_at as value_time}
use Rattle.ev_model.specs.Network.{curve_at, energy, is_customer, Network, node_count, scaled_limit}
use Rattle.fleet_model.specs.Labels.{IsLevel as IsLabelLevel}
use Rattle.fleet_model.specs.Places.{customer_number, place_of}
use Rattle.fleet_model.specs.Prices.{price_of}
use Rattle.fleet_model.specs.Steps.{time_at}
use Rattle.piece_fn.specs.PieceFn.{level_times}
use Rattle.label_steps.specs.Arrivals.{drive_time, IsArrival, NoArrival}
use Rattle.label_steps.specs.Covering.{IsCoveredAll, IsMissed}
use Rattle.near_proof.specs.Terms.{remembered}
use Rattle.near_proof.proofs.LabelSteps.{is_remembered, later, remembers}
use Rattle.near_tree.specs.Follows.{entries_earned, MayFollow, StandsFor}
use Rattle.near_tree.specs.Lasts.{last_at}
use Rattle.near_tree.specs.Preorder.{last_of, leaf_label}
use Rattle.near_tree.specs.Rules.{Leaf, MissesStep}
use Rattle.near_tree.specs.Sections.{after, anybody, Last, LeafLabel, LeafState}
use Rattle.near_tree.specs.Steps.{at_leaf_customer, at_leaf_station, earned_at, IsLeafCustomerStep, IsLeafStationStep, leaf_at}
use Rattle.near_tree.specs.Judging.{AreStepsCovered, IsServed, TellsStep}
use Rattle.near_tree.specs.Targets.{covers_at, IsStateCovered, state_at}
use Rattle.near_tree.specs.declared.coverage.Target.{Target}
use Rattle.near_tree.specs.declared.proof.SectionLabel.{SectionLabel}
use Rattle.near_tree.proofs.NearSteps.{covered_by, place_low}
use Rattle.near_tree.proofs.Stands.{stands_self}
use Rattle.fleet_model.proofs.Numbers.{counted}

pub tells : (g : Network) (f : Leaf) (l : LeafLabel) (x : ℕ) (covered : Bool) → (covered ≡ true → AreStepsCovered g f l x) → (covered ≡ false → MissesStep g f l x) → TellsStep g f l x covered
tells g f l x true is isnt = is refl
tells g f l x false is isnt = isnt refl

-- the state is covered where one is after the same last that is as good
pub covered_as : (g : Network) (f : Leaf) (a c : LeafState) → a.last ≡ c.last → a.state.last ≡ c.state.last → a.state.node ≡ c.state.node → ((d : ℕ) → has a.state.served d ≡ true → has c.state.served d ≡ true) → c.state.level ≤ a.state.level → a.state.time ≤ c.state.time → a.state.paid ≡ c.state.paid
    → IsStateCovered g f a → IsStateCovered g f c
covered_as g f a c last old node served level time paid covered =
    covered_by g f.branch f.section a c covered (subst (λ (l : Last). StandsFor g f.branch f.section a.last l) last (stands_self g f.branch f.section a.last))
    (later f.section.weight a.state c.state old node served level time paid)

-- a place is one of so many
place_fits : (g : Network) (x : ℕ) → is_customer g x ≡ true → x < node_count g → place_of g x ≤ customer_count g
place_fits g x is known = let low = place_low g x is known in omega (arith, low, counted g)

pub at_low : (n place : ℕ) (past : Bool) → (past ≡ true → n < place) → place ≤ n → (if past then anybody else after place) ≡ after place
at_low n place true high low = absurd (let up = high refl in omega (arith, up, low))
at_low n place false high low = refl

module _ (g : Network) (f : Leaf) (l : LeafLabel) (x : ℕ) where
  -- no step leads to the label's own node
  pub no_move : x ≡ l.label.node → AreStepsCovered g f l x
  no_move same = record {
    customer = λ y level step. absurd (step.step.moves same);
    station = λ y z level step. absurd (step.step.moves same);
  }

  none_not : (o : Option (List (ℕ × ℕ))) → is_none o ≡ true → IsSome o → ⊥
  none_not None none some = grind (arith, some)
  none_not (Some y) none some = absurd (false≢true none)

  customer_none : is_customer g x ≡ true → is_none (curve_at g x) ≡ true
  customer_none is = elim (cases_Bool (is_none (curve_at g x))) [
    | inl none ↦ none
    | inr some ↦ absurd (grind (arith, is, some))
  ]

  -- a customer is no station
  pub customer_alone : is_customer g x ≡ true → ((y : ℕ) → IsLabelLevel l.label y → IsLeafCustomerStep g f.branch (leaf_at l y) x → IsStateCovered g f (at_leaf_customer g f.branch f.section (leaf_at l y) x))
      → AreStepsCovered g f l x
  customer_alone is each = record {
    customer = each;
    station = λ y z level step. absurd (none_not (curve_at g x) (customer_none is) step.station);
  }

  some_not : (o : Option (List (ℕ × ℕ))) (points : List (ℕ × ℕ)) → o ≡ Some points → is_none o ≡ false
  some_not o points is = rw is refl

  -- and the other way round
  pub station_alone : (points : List (ℕ × ℕ)) → curve_at g x ≡ Some points
      → ((y z : ℕ) → IsLabelLevel l.label y → IsLeafStationStep g (leaf_at l y) x z → IsStateCovered g f (at_leaf_station g (leaf_at l y) x z)) → AreStepsCovered g f l x
  station_alone points is each = record {
    customer = λ y level step. absurd (let none = customer_none step.customer in false≢true (sym (some_not (curve_at g x) points is) ∙ none));
    station = each;
  }

  -- no step leads to a node that is neither
  pub no_node : is_customer g x ≡ false → curve_at g x ≡ None → AreStepsCovered g f l x
  no_node other none = record {
    customer = λ y level step. absurd (false≢true (sym other ∙ step.customer));
    station = λ y z level step. absurd (none_not (curve_at g x) (rw none refl) step.station);
  }

  -- a customer who is remembered is no step
  pub remembered_already : (n : ℕ) → is_customer g x ≡ true → n ≡ customer_number g x → has l.label.served n ≡ true → AreStepsCovered g f l x
  remembered_already n is number has_it =
      customer_alone is (λ y level step. absurd (false≢true (sym step.new ∙ subst (λ m. has l.label.served m ≡ true) number has_it)))

  -- nor is one who may not come next
  pub may_not_follow : is_customer g x ≡ true → (MayFollow f.branch l.last (place_of g x) → ⊥) → AreStepsCovered g f l x
  may_not_follow is never = customer_alone is (λ y level step. absurd (never step.next))

  -- where nothing arrives, no step is made
  pub nobody_arrives : (points : List (ℕ × ℕ)) → l.label.first ≡ (level_times points).first → l.label.times ≡ (level_times points).times
      → NoArrival (energy g l.label.node x) (drive_time g l.label.node x) (scaled_limit g) g.reserve (level_times points) → AreStepsCovered g f l x
  nobody_arrives points first times none = record {
    customer = λ y level step. absurd (missing y level step.step.reaches (omega (arith, step.in_time)));
    station = λ y z level step. absurd (missing y level step.step.reaches (omega (arith, step.in_time)));
  }
    where
      missing : (y : ℕ) → IsLabelLevel l.label y → energy g l.label.node x + g.reserve ≤ y → time_at g (leaf_at l y).state x ≤ scaled_limit g → ⊥
      missing y level reaches in_time =
          let here : IsLevel (level_times points) y = (rw (sym first) (level.0), rw (sym first, sym times) (level.1)) in
          let past = none y here reaches in
          let same : value_time (level_times points) y ≡ (leaf_at l y).state.time = rw (sym first, sym times) refl in
          omega (arith, past, in_time, same)

  -- no step leads out of the network
  pub unknown : node_count g ≤ x → AreStepsCovered g f l x
  unknown past = record {
    customer = λ y level step. absurd (let known = step.step.known in omega (arith, known, past));
    station = λ y z level step. absurd (let known = step.step.known in omega (arith, known, past));
  }

  pub not_uncovered : AreStepsCovered g f l x → MissesStep g f l x → ⊥
  not_uncovered covered missed = elim missed.2 [
    | inl customer ↦ customer.1 (covered.customer missed.0 missed.1 customer.0)
    | inr station ↦ station.2 (covered.station missed.0 station.0 missed.1 station.1)
  ]

module _ (g : Network) (f : Leaf) (l : SectionLabel) (x n : ℕ) (t : Target) (w : List (ℕ × ℕ)) (known : x < node_count g) (customer : is_customer g x ≡ true) (number : n ≡ customer_number g x) (is : IsServed f l x n t)
    (arrival : IsArrival (energy g l.node x) (drive_time g l.node x) (scaled_limit g) g.reserve (level_times l.value) (level_times w)) where
  place : place_of g x ≡ n + 1
  place = rw customer (omega (arith, number))

  last : last_at (customer_count g) t.last ≡ after (place_of g x)
  last =
      let low = place_fits g x customer known in
      let at : t.last ≡ place_of g x = omega (arith, is.last, place) in
      ap (last_at (customer_count g)) at ∙ within low
    where
      within : place_of g x ≤ customer_count g → last_at (customer_count g) (place_of g x) ≡ after (place_of g x)
      within low = at_low (customer_count g) (place_of g x) _ (λ past. ltb-true (customer_count g) (place_of g x) past) low

  earned : t.earned ≡ earned_at g f.branch f.section (last_of l.last) x +ℤ l.earned
  earned =
      is.earned ∙ ap (λ k. (price_of f.section.prices k +ℤ entries_earned f.branch.counted f.section.entry_prices (last_of l.last) (n + 1)) +ℤ l.earned) number
      ∙ ap (λ k. (price_of f.section.prices (customer_number g x) +ℤ entries_earned f.branch.counted f.section.entry_prices (last_of l.last) k) +ℤ l.earned) (sym place)

  to_target : (y time : ℕ) → time ≡ time_at g (leaf_at (leaf_label l) y).state x → IsStateCovered g f (state_at (customer_count g) t (y - energy g l.node x) time) → IsStateCovered g f (at_leaf_customer g f.branch f.section (leaf_at (leaf_label l) y) x)
  to_target y time same covered =
      covered_as g f (state_at (customer_count g) t (y - energy g l.node x) time) (at_leaf_customer g f.branch f.section (leaf_at (leaf_label l) y) x) last refl is.node
      (λ d h. subst (λ m. has (remembered f.section.sets l.memory m) d ≡ true) number (is_remembered f.section.sets l.memory n d (sym (is.memory d) ∙ h))) (omega arith) (omega (arith, same)) earned covered

  from_target : (y time : ℕ) → time ≡ time_at g (leaf_at (leaf_label l) y).state x → IsStateCovered g f (at_leaf_customer g f.branch f.section (leaf_at (leaf_label l) y) x) → IsStateCovered g f (state_at (customer_count g) t (y - energy g l.node x) time)
  from_target y time same covered =
      covered_as g f (at_leaf_customer g f.branch f.section (leaf_at (leaf_label l) y) x) (state_at (customer_count g) t (y - energy g l.node x) time) (sym last) refl (sym is.node)
      (λ d h. is.memory d ∙ remembers f.section.sets l.memory n d (subst (λ m. has (remembered f.section.sets l.memory m) d ≡ true) (sym number) h)) (omega arith) (omega (arith, same)) (sym earned) covered

  pub customer_covered : IsCoveredAll (covers_at g f t) (level_times w) → AreStepsCovered g f (leaf_label l) x
  customer_covered covered = customer_alone g f (leaf_label l) x customer (λ y level step.
      let e = energy g l.node x in
      let v = level_times l.value in
      let back : y - e + e ≡ y = omega (arith, step.step.reaches) in
      let within : value_time v y + (drive_time g l.node x) ≤ scaled_limit g = omega (arith, step.in_time) in
      let there : IsLevel v (y - e + e) × (value_time v (y - e + e) + (drive_time g l.node x) ≤ scaled_limit g) = rw back (level, within) in
      let at = (arrival.left (y - e)).1 (there.0, omega (arith, step.step.reaches), there.1) in
      let time : value_time (level_times w) (y - e) ≡ value_time v y + (drive_time g l.node x) = arrival.later (y - e) at ∙ ap (λ z. value_time v z + (drive_time g l.node x)) back in
      to_target y (value_time (level_times w) (y - e)) (omega (arith, time)) (covered (y - e) at))

  pub customer_missed : x ≢ l.node → has l.memory n ≡ false → MayFollow f.branch (last_of l.last) (n + 1) → IsMissed (covers_at g f t) (level_times w) → MissesStep g f (leaf_label l) x
  customer_missed moves new next missed =
      let e = energy g l.node x in
      let a = missed.0 in
      let at = (arrival.left a).0 missed.1 in
      let gone : a + e - e ≡ a = omega arith in
      let time = arrival.later a missed.1 in
      let step : IsLeafCustomerStep g f.branch (leaf_at (leaf_label l) (a + e)) x = record {
        step = record { known = known; moves = moves; reaches = omega (arith, at.1) };
        customer = customer;
        new = subst (λ m. has l.memory m ≡ false) number new;
        next = subst (MayFollow f.branch (last_of l.last)) (sym place) next;
        in_time = omega (arith, at.2);
      } in
      let same : value_time (level_times w) a ≡ time_at g (leaf_at (leaf_label l) (a + e)).state x = omega (arith, time) in
      (a + e, at.0, inl (step, λ covered. missed.2 (subst (λ z. IsStateCovered g f (state_at (customer_count g) t z (value_time (level_times w) a))) gone (from_target (a + e) (value_time (level_times w) a) same covered))))
