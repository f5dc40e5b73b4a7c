-- Where no step is made.
use Rattle.std.proofs.Common.{◌≡◌, ◌∙◌, ℕ, ◌≤◌, subst, sym, List, true, arith, inl, inr, Option, None, Some}
use Rattle.std.specs.Prelude.{is_none, IsSome}
use Rattle.std.proofs.lemmas.Bool.{cases_Bool, false≢true}
use Rattle.customer_sets.specs.CustSet.{has}
use Rattle.ev_model.specs.Network.{curve_at, is_customer, Network}
use Rattle.fleet_model.specs.Places.{customer_count, customer_number}
use Rattle.label_steps.specs.Arrivals.{ArrivesAs}
use Rattle.near_proof.specs.declared.proof.NearLabel.{NearLabel}
use Rattle.near_pricing.specs.Placed.{CanStep}

-- a customer is no station
no_station : (g : Network) (l : NearLabel) (x : ℕ) → is_customer g x ≡ true → IsSome (curve_at g x) → ⊥
no_station g l x is some = elim (cases_Bool (is_none (curve_at g x))) [
  | inl none ↦ none_not (curve_at g x) none some
  | inr other ↦ absurd (grind (arith, is, other))
]
  where
    none_not : (o : Option (List (ℕ × ℕ))) → is_none o ≡ true → IsSome o → ⊥
    none_not None none some = grind (arith, some)
    none_not (Some y) none some = absurd (false≢true none)

-- a customer who is remembered is no step
pub served_again : (g : Network) (l : NearLabel) (x n : ℕ) → is_customer g x ≡ true → n ≡ customer_number g x → has l.memory n ≡ true → CanStep g l x → ⊥
served_again g l x n is number there can = elim (can.2) [
  | inl customer ↦ false≢true (sym customer.new ∙ subst (λ m. has l.memory m ≡ true) number there)
  | inr station ↦ no_station g l x is station.1.station
]

-- nor is one after as many services as there are customers
pub served_enough : (g : Network) (l : NearLabel) (x : ℕ) → is_customer g x ≡ true → customer_count g ≤ l.count → CanStep g l x → ⊥
served_enough g l x is enough can = elim (can.2) [
  | inl customer ↦ (let fewer = customer.fewer in omega (arith, fewer, enough))
  | inr station ↦ no_station g l x is station.1.station
]

-- where nothing arrives, no step is made
pub nobody_arrives : (g : Network) (l : NearLabel) (x : ℕ) → ArrivesAs g l.value l.node x g.reserve None → CanStep g l x → ⊥
nobody_arrives g l x none can = elim (can.2) [
  | inl customer ↦
      let past = none can.0 can.1 customer.step.reaches in
      let early = customer.in_time in
      omega (arith, past, early)
  | inr station ↦
      let past = none can.0 can.1 station.1.step.reaches in
      let early = station.1.in_time in
      omega (arith, past, early)
]
