-- What the states of a value on arriving say of the steps from a label.
use Rattle.std.proofs.Common.{◌≡◌, ◌≢◌, ◌∙◌, ℕ, ◌+◌, ◌-◌, ◌*◌, ◌<◌, ◌≤◌, Bool, true, false, ◌||◌, List, Option, None, Some, refl, sym, ap, subst, arith, inl, inr, nat_eq, ◌+ℤ◌}
use Rattle.std.specs.Prelude.{is_none, IsSome}
use Rattle.std.proofs.Math.Nat.{mul-le-mul_left}
use Rattle.std.proofs.lemmas.Bool.{cases_Bool, false≢true}
use Rattle.std.proofs.lemmas.Int.{ints}
use Rattle.customer_sets.specs.CustSet.{has, IsWithin}
use Rattle.dominance.specs.LevelTimes.{IsLevel, time_at as value_time}
use Rattle.ev_model.specs.Network.{curve_at, energy, is_customer, node_count, scaled_limit}
use Rattle.fleet_model.specs.Coverage.{IsAsGood, IsCovered}
use Rattle.fleet_model.specs.Labels.{IsLevel as IsLabelLevel, State, state_at as label_state}
use Rattle.fleet_model.specs.Places.{customer_number, place_of}
use Rattle.fleet_model.specs.Prices.{price_of, price_sum}
use Rattle.fleet_model.specs.Section.{Section}
use Rattle.fleet_model.specs.Steps.{at_customer, at_station, IsCustomerStep, IsStationStep, time_at}
use Rattle.fleet_model.proofs.Steps.{covered_by_good}
use Rattle.piece_fn.specs.PieceFn.{level_times}
use Rattle.piece_fn.specs.declared.label.Label.{Label}
use Rattle.label_steps.specs.Arrivals.{drive_time, IsArrival, NoArrival}
use Rattle.closed_lists.specs.Questions.{Question, section}
use Rattle.closed_lists.specs.Sections.{paid_label}
use Rattle.closed_lists.specs.Targets.{IsCoveredAll, IsMissed, state_of}
use Rattle.closed_lists.specs.Tellings.{IsUncovered, TellsStep}
use Rattle.closed_lists.specs.declared.coverage.Target.{Target}

pub tells : (q : Question) (l : Label) (x : ℕ) (covered : Bool) → (covered ≡ true → (IsUncovered q l x → ⊥)) → (covered ≡ false → IsUncovered q l x) → TellsStep q l x covered
tells q l x true is isnt = is refl
tells q l x false is isnt = isnt refl

-- an earlier state of a lower or the same cost is as good
pub later : (s : Section) (a b : State) → a.last ≡ b.last → a.node ≡ b.node → IsWithin a.served b.served → b.level ≤ a.level → a.time ≤ b.time → a.paid ≡ b.paid → IsAsGood s.weight a b
later s a b last node served level time paid =
    let scaled : s.weight * a.time ≤ s.weight * b.time = mul-le-mul_left s.weight time in
    record {
      last = last;
      node = node;
      served = served;
      level = level;
      time = time;
      cost = omega (arith, ints, scaled, paid);
    }

module _ (q : Question) (l : Label) (x : ℕ) where
  -- no step leads to the label's own node
  pub no_move : x ≡ l.node → IsUncovered q l x → ⊥
  no_move same missed = elim missed.2 [
    | inl customer ↦ customer.0.step.moves same
    | inr station ↦ station.1.step.moves same
  ]

  none_not : (o : Option (List (ℕ × ℕ))) → is_none o ≡ true → IsSome o → ⊥
  none_not None none some = grind (arith, some)
  none_not (Some y) none some = absurd (false≢true none)

  customer_none : is_customer q.network x ≡ true → is_none (curve_at q.network x) ≡ true
  customer_none is = elim (cases_Bool (is_none (curve_at q.network x))) [
    | inl none ↦ none
    | inr some ↦ absurd (grind (arith, is, some))
  ]

  -- a customer is no station
  pub customer_alone : is_customer q.network x ≡ true → ((y : ℕ) → IsLabelLevel (paid_label q.prices l) y → IsCustomerStep q.network (section q) (label_state (paid_label q.prices l) y) x → IsCovered (section q) (at_customer q.network (section q) (label_state (paid_label q.prices l) y) x))
      → IsUncovered q l x → ⊥
  customer_alone is each missed = elim missed.2 [
    | inl customer ↦ customer.1 (each missed.0 missed.1 customer.0)
    | inr station ↦ none_not (curve_at q.network x) (customer_none is) station.1.station
  ]

  some_not : (o : Option (List (ℕ × ℕ))) (points : List (ℕ × ℕ)) → o ≡ Some points → is_none o ≡ false
  some_not o points is = rw is refl

  -- and the other way round
  pub station_alone : (points : List (ℕ × ℕ)) → curve_at q.network x ≡ Some points
      → ((y z : ℕ) → IsLabelLevel (paid_label q.prices l) y → IsStationStep q.network (label_state (paid_label q.prices l) y) x z → IsCovered (section q) (at_station q.network (label_state (paid_label q.prices l) y) x z)) → IsUncovered q l x → ⊥
  station_alone points is each missed = elim missed.2 [
    | inl customer ↦
        let none = customer_none customer.0.customer in
        false≢true (sym (some_not (curve_at q.network x) points is) ∙ none)
    | inr station ↦ station.2 (each missed.0 station.0 missed.1 station.1)
  ]

  -- no step leads to a node that is neither
  pub no_node : is_customer q.network x ≡ false → curve_at q.network x ≡ None → IsUncovered q l x → ⊥
  no_node other none missed = elim missed.2 [
    | inl customer ↦ false≢true (sym other ∙ customer.0.customer)
    | inr station ↦ none_not (curve_at q.network x) (rw none refl) station.1.station
  ]

-- what a customer's target has to be
pub record IsCustomerTarget (q : Question) (l : Label) (x n : ℕ) (t : Target) : Type 0 where
  pub customer : is_customer q.network x ≡ true
  pub number : n ≡ customer_number q.network x
  pub last : t.last ≡ x
  pub node : t.node ≡ x
  pub set : (c : ℕ) → has t.set c ≡ (nat_eq n c || has l.set c)
  pub paid : t.paid ≡ price_of q.prices n +ℤ price_sum q.prices l.set

module _ (q : Question) (l : Label) (x n : ℕ) (t : Target) (w : List (ℕ × ℕ)) (is : IsCustomerTarget q l x n t)
    (arrival : IsArrival (energy q.network l.node x) (drive_time q.network l.node x) (scaled_limit q.network) q.network.reserve (level_times l.value) (level_times w)) where
  to_target : (y : ℕ) → value_time (level_times w) (y - energy q.network l.node x) ≡ time_at q.network (label_state (paid_label q.prices l) y) x → IsAsGood q.weight (state_of t w (y - energy q.network l.node x)) (at_customer q.network (section q) (label_state (paid_label q.prices l) y) x)
  to_target y time =
      later (section q) (state_of t w (y - energy q.network l.node x)) (at_customer q.network (section q) (label_state (paid_label q.prices l) y) x) is.last is.node
      (λ c h. subst (λ m. (nat_eq m c || has l.set c) ≡ true) is.number (sym (is.set c) ∙ h)) (omega arith) (omega (arith, time))
      (is.paid ∙ ap (λ m. price_of q.prices m +ℤ price_sum q.prices l.set) is.number)

  from_target : (y : ℕ) → value_time (level_times w) (y - energy q.network l.node x) ≡ time_at q.network (label_state (paid_label q.prices l) y) x → IsAsGood q.weight (at_customer q.network (section q) (label_state (paid_label q.prices l) y) x) (state_of t w (y - energy q.network l.node x))
  from_target y time =
      later (section q) (at_customer q.network (section q) (label_state (paid_label q.prices l) y) x) (state_of t w (y - energy q.network l.node x)) (sym is.last) (sym is.node)
      (λ c h. is.set c ∙ subst (λ m. (nat_eq m c || has l.set c) ≡ true) (sym is.number) h) (omega arith) (omega (arith, time))
      (sym (is.paid ∙ ap (λ m. price_of q.prices m +ℤ price_sum q.prices l.set) is.number))

  pub customer_covered : IsCoveredAll (section q) t w → IsUncovered q l x → ⊥
  customer_covered covered = customer_alone q l x is.customer (λ y level step.
      let e = energy q.network l.node x in
      let v = level_times l.value in
      let back : y - e + e ≡ y = omega (arith, step.step.reaches) in
      let within : value_time v y + (drive_time q.network l.node x) ≤ scaled_limit q.network = omega (arith, step.in_time) in
      let there : IsLevel v (y - e + e) × (value_time v (y - e + e) + (drive_time q.network l.node x) ≤ scaled_limit q.network) = rw back (level, within) in
      let at = (arrival.left (y - e)).1 (there.0, omega (arith, step.step.reaches), there.1) in
      let time : value_time (level_times w) (y - e) ≡ value_time v y + (drive_time q.network l.node x) = arrival.later (y - e) at ∙ ap (λ z. value_time v z + (drive_time q.network l.node x)) back in
      covered_by_good (section q) (state_of t w (y - e)) (at_customer q.network (section q) (label_state (paid_label q.prices l) y) x) (covered (y - e) at) (to_target y (omega (arith, time))))

  pub customer_missed : x < node_count q.network → x ≢ l.node → has l.set n ≡ false → (section q).allows (place_of q.network l.last) (place_of q.network x) ≡ true → IsMissed (section q) t w → IsUncovered q l x
  customer_missed known moves new allowed missed =
      let e = energy q.network l.node x in
      let a = missed.0 in
      let at = (arrival.left a).0 missed.1 in
      let gone : a + e - e ≡ a = omega arith in
      let time = arrival.later a missed.1 in
      let step : IsCustomerStep q.network (section q) (label_state (paid_label q.prices l) (a + e)) x = record {
        step = record { known = known; moves = moves; reaches = omega (arith, at.1) };
        customer = is.customer;
        new = subst (λ m. has l.set m ≡ false) is.number new;
        allowed = allowed;
        in_time = omega (arith, at.2);
      } in
      let same : value_time (level_times w) (a + e - e) ≡ time_at q.network (label_state (paid_label q.prices l) (a + e)) x = ap (λ z. value_time (level_times w) z) gone ∙ omega (arith, time) in
      (a + e, at.0, inl (step, λ covered. missed.2 (subst (λ z. IsCovered (section q) (state_of t w z)) gone (covered_by_good (section q) (at_customer q.network (section q) (label_state (paid_label q.prices l) (a + e)) x) (state_of t w (a + e - e)) covered (from_target (a + e) same)))))

-- where nothing arrives, no step is made
pub nobody_arrives : (q : Question) (l : Label) (x : ℕ) → NoArrival (energy q.network l.node x) (drive_time q.network l.node x) (scaled_limit q.network) q.network.reserve (level_times l.value) → IsUncovered q l x → ⊥
nobody_arrives q l x none missed = elim missed.2 [
  | inl customer ↦
      let past = none missed.0 missed.1 customer.0.step.reaches in
      omega (arith, past, customer.0.in_time)
  | inr station ↦
      let past = none missed.0 missed.1 station.1.step.reaches in
      omega (arith, past, station.1.in_time)
]

-- a customer in the set is no step
pub served_already : (q : Question) (l : Label) (x n : ℕ) → is_customer q.network x ≡ true → n ≡ customer_number q.network x → has l.set n ≡ true → IsUncovered q l x → ⊥
served_already q l x n is number has_it =
    customer_alone q l x is (λ y level step. absurd (false≢true (sym step.new ∙ subst (λ m. has l.set m ≡ true) number has_it)))

-- nor is one who may not follow
pub may_not_follow : (q : Question) (l : Label) (x : ℕ) → is_customer q.network x ≡ true → (section q).allows (place_of q.network l.last) (place_of q.network x) ≡ false → IsUncovered q l x → ⊥
may_not_follow q l x is other =
    customer_alone q l x is (λ y level step. absurd (false≢true (sym other ∙ step.allowed)))

-- a step leads to a node of the network
pub is_known : (q : Question) (l : Label) (x : ℕ) → IsUncovered q l x → x < node_count q.network
is_known q l x missed = elim missed.2 [
  | inl customer ↦ customer.0.step.known
  | inr station ↦ station.1.step.known
]
