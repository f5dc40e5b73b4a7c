-- What the states of a value on arriving say of the steps from a label.
use Rattle.std.proofs.Common.{◌≡◌, ◌≢◌, ◌∙◌, ℕ, ◌+◌, ◌-◌, ◌*◌, ◌<◌, ◌≤◌, Bool, true, false, ◌||◌, ◌&&◌, List, Option, None, Some, refl, sym, ap, subst, arith, inl, inr, nat_eq, pos, ◌+ℤ◌}
use Rattle.std.specs.List.{filter}
use Rattle.std.specs.Prelude.{is_none, IsSome}
use Rattle.std.proofs.Math.Nat.{mul-le-mul_left}
use Rattle.std.proofs.lemmas.Bool.{and_from, and_parts, cases_Bool, false≢true, or_cases, or_left, or_right}
use Rattle.std.proofs.lemmas.Int.{ints}
use Rattle.customer_sets.specs.CustSet.{has, IsWithin}
use Rattle.dominance.specs.LevelTimes.{IsLevel, time_at as value_time}
use Rattle.ev_model.specs.Network.{curve_at, energy, is_customer, Network, node_count, scaled_limit}
use Rattle.fleet_model.specs.Coverage.{IsAsGood}
use Rattle.fleet_model.specs.Labels.{IsLevel as IsLabelLevel, State}
use Rattle.fleet_model.specs.Places.{customer_count, customer_number}
use Rattle.fleet_model.specs.Steps.{time_at}
use Rattle.piece_fn.specs.PieceFn.{level_times}
use Rattle.label_steps.specs.Arrivals.{drive_time, IsArrival, NoArrival}
use Rattle.label_steps.specs.Covering.{IsCoveredAll, IsMissed}
use Rattle.near_proof.specs.Covered.{IsNearCovered}
use Rattle.near_proof.specs.States.{label_of, near_at}
use Rattle.near_proof.specs.Steps.{at_near_customer, at_near_station, IsNearCustomerStep, IsNearStationStep}
use Rattle.near_proof.specs.Terms.{near_set, price_of, remembered}
use Rattle.near_proof.specs.declared.proof.NearLabel.{NearLabel}
use Rattle.near_proof.proofs.Memories.{filtered_has, has_filtered}
use Rattle.near_proof.proofs.NearSteps.{covered_by}
use Rattle.near_proof.specs.Faults.{Judged}
use Rattle.near_proof.specs.Judging.{AreStepsCovered, IsServed, IsUncovered, TellsStep}
use Rattle.near_proof.specs.Targets.{Asking, covers, state_at}
use Rattle.near_proof.specs.declared.coverage.Target.{Target}

pub tells : (g : Network) (j : Judged) (l : NearLabel) (x : ℕ) (covered : Bool) → (covered ≡ true → AreStepsCovered g j l x) → (covered ≡ false → IsUncovered g j l x) → TellsStep g j l x covered
tells g j l x true is isnt = is refl
tells g j l x false is isnt = isnt refl

-- an earlier state that has earned the same is as good
pub later : (w : ℕ) (a b : State) → a.last ≡ b.last → a.node ≡ b.node → IsWithin a.served b.served → b.level ≤ a.level → a.time ≤ b.time → a.paid ≡ b.paid → IsAsGood w a b
later w a b last node served level time paid =
    let scaled : w * a.time ≤ w * b.time = mul-le-mul_left w time in
    record {
      last = last;
      node = node;
      served = served;
      level = level;
      time = time;
      cost = omega (arith, ints, scaled, paid);
    }

-- who is remembered, as a test
pub remembers : (sets : List (List ℕ)) (memory : List ℕ) (c d : ℕ) → has (remembered sets memory c) d ≡ true → (nat_eq c d || (has memory d && has (near_set sets c) d)) ≡ true
remembers sets memory c d is = elim (or_cases (nat_eq c d) (has (filter (has (near_set sets c)) memory) d) is) [
  | inl same ↦ or_left (nat_eq c d) _ same
  | inr old ↦ let parts = filtered_has (has (near_set sets c)) memory d old in or_right (nat_eq c d) _ (and_from (has memory d) (has (near_set sets c) d) parts.0 parts.1)
]

pub is_remembered : (sets : List (List ℕ)) (memory : List ℕ) (c d : ℕ) → (nat_eq c d || (has memory d && has (near_set sets c) d)) ≡ true → has (remembered sets memory c) d ≡ true
is_remembered sets memory c d is = elim (or_cases (nat_eq c d) (has memory d && has (near_set sets c) d) is) [
  | inl same ↦ or_left (nat_eq c d) (has (filter (has (near_set sets c)) memory) d) same
  | inr old ↦ let parts = and_parts (has memory d) (has (near_set sets c) d) old in or_right (nat_eq c d) (has (filter (has (near_set sets c)) memory) d) (has_filtered (has (near_set sets c)) memory d parts.0 parts.1)
]

module _ (g : Network) (j : Judged) (l : NearLabel) (x : ℕ) where
  -- no step leads to the label's own node
  pub no_move : x ≡ l.node → AreStepsCovered g j l x
  no_move same = record {
    customer = λ y level step. absurd (step.step.moves same);
    station = λ y z level step. absurd (step.step.moves same);
  }

  none_not : (o : Option (List (ℕ × ℕ))) → is_none o ≡ true → IsSome o → ⊥
  none_not None none some = grind (arith, some)
  none_not (Some y) none some = absurd (false≢true none)

  customer_none : is_customer g x ≡ true → is_none (curve_at g x) ≡ true
  customer_none is = elim (cases_Bool (is_none (curve_at g x))) [
    | inl none ↦ none
    | inr some ↦ absurd (grind (arith, is, some))
  ]

  -- a customer is no station
  pub customer_alone : is_customer g x ≡ true → ((y : ℕ) → IsLabelLevel (label_of l) y → IsNearCustomerStep g (near_at l y) x → IsNearCovered j.terms.weight j.labels (at_near_customer g j.terms (near_at l y) x))
      → AreStepsCovered g j l x
  customer_alone is each = record {
    customer = each;
    station = λ y z level step. absurd (none_not (curve_at g x) (customer_none is) step.station);
  }

  some_not : (o : Option (List (ℕ × ℕ))) (points : List (ℕ × ℕ)) → o ≡ Some points → is_none o ≡ false
  some_not o points is = rw is refl

  -- and the other way round
  pub station_alone : (points : List (ℕ × ℕ)) → curve_at g x ≡ Some points
      → ((y z : ℕ) → IsLabelLevel (label_of l) y → IsNearStationStep g (near_at l y) x z → IsNearCovered j.terms.weight j.labels (at_near_station g (near_at l y) x z)) → AreStepsCovered g j l x
  station_alone points is each = record {
    customer = λ y level step. absurd (let none = customer_none step.customer in false≢true (sym (some_not (curve_at g x) points is) ∙ none));
    station = each;
  }

  -- no step leads to a node that is neither
  pub no_node : is_customer g x ≡ false → curve_at g x ≡ None → AreStepsCovered g j l x
  no_node other none = record {
    customer = λ y level step. absurd (false≢true (sym other ∙ step.customer));
    station = λ y z level step. absurd (none_not (curve_at g x) (rw none refl) step.station);
  }

  -- a customer who is remembered is no step
  pub remembered_already : (n : ℕ) → is_customer g x ≡ true → n ≡ customer_number g x → has l.memory n ≡ true → AreStepsCovered g j l x
  remembered_already n is number has_it =
      customer_alone is (λ y level step. absurd (false≢true (sym step.new ∙ subst (λ m. has l.memory m ≡ true) number has_it)))

  -- nor is one after as many services as there are customers
  pub served_enough : is_customer g x ≡ true → customer_count g ≤ l.count → AreStepsCovered g j l x
  served_enough is enough = customer_alone is (λ y level step. absurd (let fewer = step.fewer in omega (arith, fewer, enough)))

  -- where nothing arrives, no step is made
  pub nobody_arrives : NoArrival (energy g l.node x) (drive_time g l.node x) (scaled_limit g) g.reserve (level_times l.value) → AreStepsCovered g j l x
  nobody_arrives none = record {
    customer = λ y level step. absurd (let past = none y level step.step.reaches in omega (arith, past, step.in_time));
    station = λ y z level step. absurd (let past = none y level step.step.reaches in omega (arith, past, step.in_time));
  }

  -- no step leads out of the network
  pub unknown : node_count g ≤ x → AreStepsCovered g j l x
  unknown past = record {
    customer = λ y level step. absurd (let known = step.step.known in omega (arith, known, past));
    station = λ y z level step. absurd (let known = step.step.known in omega (arith, known, past));
  }

  pub not_uncovered : AreStepsCovered g j l x → IsUncovered g j l x → ⊥
  not_uncovered covered missed = elim missed.2 [
    | inl customer ↦ customer.1 (covered.customer missed.0 missed.1 customer.0)
    | inr station ↦ station.2 (covered.station missed.0 station.0 missed.1 station.1)
  ]

-- the states of a target, asked of the labels of a proof
abbrev pub asked_of : Judged → Target → Asking
asked_of j t = record { weight = j.terms.weight; labels = j.labels; target = t }

module _ (g : Network) (j : Judged) (l : NearLabel) (x n : ℕ) (t : Target) (w : List (ℕ × ℕ)) (customer : is_customer g x ≡ true) (number : n ≡ customer_number g x) (is : IsServed j.terms l x n t)
    (arrival : IsArrival (energy g l.node x) (drive_time g l.node x) (scaled_limit g) g.reserve (level_times l.value) (level_times w)) where
  earned : pos t.earned ≡ pos (price_of j.terms.prices (customer_number g x)) +ℤ pos l.earned
  earned = omega (arith, ints, is.earned, ap (price_of j.terms.prices) number)

  to_target : (y time : ℕ) → time ≡ time_at g (near_at l y).state x → IsNearCovered j.terms.weight j.labels (state_at t (y - energy g l.node x) time) → IsNearCovered j.terms.weight j.labels (at_near_customer g j.terms (near_at l y) x)
  to_target y time same covered =
      covered_by j.terms.weight j.labels (state_at t (y - energy g l.node x) time) (at_near_customer g j.terms (near_at l y) x) covered (omega (arith, is.count))
      (later j.terms.weight (state_at t (y - energy g l.node x) time).state (at_near_customer g j.terms (near_at l y) x).state refl is.node
      (λ d h. subst (λ m. has (remembered j.terms.sets l.memory m) d ≡ true) number (is_remembered j.terms.sets l.memory n d (sym (is.memory d) ∙ h))) (omega arith) (omega (arith, same)) earned)

  from_target : (y time : ℕ) → time ≡ time_at g (near_at l y).state x → IsNearCovered j.terms.weight j.labels (at_near_customer g j.terms (near_at l y) x) → IsNearCovered j.terms.weight j.labels (state_at t (y - energy g l.node x) time)
  from_target y time same covered =
      covered_by j.terms.weight j.labels (at_near_customer g j.terms (near_at l y) x) (state_at t (y - energy g l.node x) time) covered (omega (arith, is.count))
      (later j.terms.weight (at_near_customer g j.terms (near_at l y) x).state (state_at t (y - energy g l.node x) time).state refl (sym is.node)
      (λ d h. is.memory d ∙ remembers j.terms.sets l.memory n d (subst (λ m. has (remembered j.terms.sets l.memory m) d ≡ true) (sym number) h)) (omega arith) (omega (arith, same)) (sym earned))

  pub customer_covered : IsCoveredAll (covers (asked_of j t)) (level_times w) → AreStepsCovered g j l x
  customer_covered covered = customer_alone g j l x customer (λ y level step.
      let e = energy g l.node x in
      let v = level_times l.value in
      let back : y - e + e ≡ y = omega (arith, step.step.reaches) in
      let within : value_time v y + (drive_time g l.node x) ≤ scaled_limit g = omega (arith, step.in_time) in
      let there : IsLevel v (y - e + e) × (value_time v (y - e + e) + (drive_time g l.node x) ≤ scaled_limit g) = rw back (level, within) in
      let at = (arrival.left (y - e)).1 (there.0, omega (arith, step.step.reaches), there.1) in
      let time : value_time (level_times w) (y - e) ≡ value_time v y + (drive_time g l.node x) = arrival.later (y - e) at ∙ ap (λ z. value_time v z + (drive_time g l.node x)) back in
      to_target y (value_time (level_times w) (y - e)) (omega (arith, time)) (covered (y - e) at))

  pub customer_missed : x < node_count g → x ≢ l.node → has l.memory n ≡ false → l.count < customer_count g → IsMissed (covers (asked_of j t)) (level_times w) → IsUncovered g j l x
  customer_missed known moves new fewer missed =
      let e = energy g l.node x in
      let a = missed.0 in
      let at = (arrival.left a).0 missed.1 in
      let gone : a + e - e ≡ a = omega arith in
      let time = arrival.later a missed.1 in
      let step : IsNearCustomerStep g (near_at l (a + e)) x = record {
        step = record { known = known; moves = moves; reaches = omega (arith, at.1) };
        customer = customer;
        new = subst (λ m. has l.memory m ≡ false) number new;
        fewer = fewer;
        in_time = omega (arith, at.2);
      } in
      let same : value_time (level_times w) a ≡ time_at g (near_at l (a + e)).state x = omega (arith, time) in
      (a + e, at.0, inl (step, λ covered. missed.2 (subst (λ z. IsNearCovered j.terms.weight j.labels (state_at t z (value_time (level_times w) a))) gone (from_target (a + e) (value_time (level_times w) a) same covered))))
