-- What covers a state of a near route covers the states that its steps lead to.
use Rattle.std.proofs.Common.{◌≡◌, ℕ, ◌+◌, ◌*◌, ◌≤◌, zero, suc, refl, subst, List, [], ◌∷◌, Option, Some, None, arith, inl, inr}
use Rattle.std.specs.List.{All}
use Rattle.std.specs.Prelude.{slice_index_or, ℤ, pos, ◌+ℤ◌, ◌-ℤ◌, ◌≤ℤ◌}
use Rattle.std.proofs.Math.Nat.{mul-le-mul_left}
use Rattle.std.proofs.lemmas.Int.{ints}
use Rattle.std.proofs.lemmas.List.Elements.{All-head, All-tail}
use Rattle.ev_model.specs.Curve.{charge_time}
use Rattle.ev_model.specs.Network.{curve_at, HasFittingCurve, IsNetwork, Network, plug_time}
use Rattle.ev_model.proofs.ChargeTime.{charge_time-rises}
use Rattle.fleet_model.specs.Coverage.{IsAsGood}
use Rattle.fleet_model.specs.Labels.{State, state_at}
use Rattle.fleet_model.specs.Places.{customer_number}
use Rattle.fleet_model.specs.Steps.{at_station, IsStationStep, IsStep, level_at, time_at}
use Rattle.fleet_model.proofs.Sets.{new_within}
use Rattle.fleet_model.proofs.Steps.{charging_less, good_trans}
use Rattle.near_proof.specs.Closed.{AreClosed}
use Rattle.near_proof.specs.Covered.{AreWithinFull, IsNearCovered}
use Rattle.near_proof.specs.States.{label_of, near_at, NearState}
use Rattle.near_proof.specs.Steps.{at_near_customer, at_near_station, IsNearCustomerStep, IsNearHomeStep, IsNearStationStep}
use Rattle.near_proof.specs.Terms.{price_of, Terms}
use Rattle.near_proof.specs.declared.proof.NearLabel.{NearLabel}
use Rattle.near_proof.proofs.Memories.{remembers_fewer}

-- what is covered covers what is worse, after no fewer services
pub covered_by : (w : ℕ) (labels : List NearLabel) (a b : NearState) → IsNearCovered w labels a → a.count ≤ b.count → IsAsGood w a.state b.state → IsNearCovered w labels b
covered_by w labels a b covered more good =
    let l = covered.0 in
    let y = covered.2.1.0 in
    let fewer = covered.2.0 in
    (l, covered.1, (omega (arith, fewer, more), (y, covered.2.1.1, good_trans w (state_at (label_of l) y) a.state b.state covered.2.1.2 good)))

-- a better state can take the same step, and is no later and no lower
step_from : (g : Network) (w : ℕ) (a b : State) (x : ℕ) → IsAsGood w a b → IsStep g b x → IsStep g a x
step_from g w a b x good step = record {
  known = step.known;
  moves = rw (good.node) step.moves;
  reaches = rw (good.node) (omega (arith, good.level, step.reaches));
}

arrives : (g : Network) (w : ℕ) (a b : State) (x : ℕ) → IsAsGood w a b → time_at g a x + b.time ≡ time_at g b x + a.time
arrives g w a b x good = rw (good.node) (omega arith)

lower : (g : Network) (w : ℕ) (a b : State) (x : ℕ) → IsAsGood w a b → level_at g b x ≤ level_at g a x
lower g w a b x good = rw (good.node) (omega (arith, good.level))

-- a cost that is no more stays so where the time grows by no more and the same is earned
no_dearer : (w ta tb xa xb : ℕ) (pa pb more : ℤ) → xa + tb ≤ xb + ta → (pos (w * ta) -ℤ pa) ≤ℤ (pos (w * tb) -ℤ pb) →
    (pos (w * xa) -ℤ (more +ℤ pa)) ≤ℤ (pos (w * xb) -ℤ (more +ℤ pb))
no_dearer w ta tb xa xb pa pb more slower cost =
    let scaled : w * (xa + tb) ≤ w * (xb + ta) = mul-le-mul_left w slower in
    let parts : w * xa + w * tb ≤ w * xb + w * ta = omega (arith, scaled) in
    omega (arith, ints, parts, cost)

no_dearer_later : (w ta tb xa xb : ℕ) (pa pb : ℤ) → xa + tb ≤ xb + ta → (pos (w * ta) -ℤ pa) ≤ℤ (pos (w * tb) -ℤ pb) →
    (pos (w * xa) -ℤ pa) ≤ℤ (pos (w * xb) -ℤ pb)
no_dearer_later w ta tb xa xb pa pb slower cost = omega (arith, ints, no_dearer w ta tb xa xb pa pb (pos 0) slower cost)

-- charging to a higher level takes no less time
fitting : (full d x : ℕ) (curves : List (Option (List (ℕ × ℕ)))) (points : List (ℕ × ℕ)) → All (HasFittingCurve full d) curves → slice_index_or curves x None ≡ Some points → HasFittingCurve full d (Some points)
fitting full d x [] points fit is = absurd (grind (arith, is))
fitting full d zero (c ∷ curves) points fit is = subst (λ (q : Option (List (ℕ × ℕ))). HasFittingCurve full d q) is (All-head (HasFittingCurve full d) c curves fit)
fitting full d (suc x) (c ∷ curves) points fit is = fitting full d x curves points (All-tail (HasFittingCurve full d) c curves fit) is

rises_at : (g : Network) (x : ℕ) → IsNetwork g → (points : List (ℕ × ℕ)) → curve_at g x ≡ Some points → (a b : ℕ) → a ≤ b → charge_time g.denominator points a ≤ charge_time g.denominator points b
rises_at g x network points is a b le = charge_time-rises g.denominator points a b (fitting g.capacity g.denominator x g.curves points network.curves is).0.rises le

module _ (g : Network) (t : Terms) (labels : List NearLabel) (closed : AreClosed g t labels) where
  pub customer_step : (b : NearState) (x : ℕ) → IsNearCovered t.weight labels b → IsNearCustomerStep g b x → IsNearCovered t.weight labels (at_near_customer g t b x)
  customer_step b x covered step =
      let l = covered.0 in
      let y = covered.2.1.0 in
      let a = near_at l y in
      let fewer = covered.2.0 in
      let good = covered.2.1.2 in
      let arriving = arrives g t.weight a.state b.state x good in
      let c = customer_number g x in
      let taken : IsNearCustomerStep g a x = record {
        step = step_from g t.weight a.state b.state x good step.step;
        customer = step.customer;
        new = new_within c a.state.served b.state.served good.served step.new;
        fewer = omega (arith, fewer, step.fewer);
        in_time = omega (arith, arriving, good.time, step.in_time);
      } in
      let better : IsAsGood t.weight (at_near_customer g t a x).state (at_near_customer g t b x).state = record {
        last = refl;
        node = refl;
        served = remembers_fewer t.sets a.state.served b.state.served c good.served;
        level = lower g t.weight a.state b.state x good;
        time = omega (arith, arriving, good.time);
        cost = no_dearer t.weight a.state.time b.state.time (time_at g a.state x) (time_at g b.state x) a.state.paid b.state.paid (pos (price_of t.prices c)) (omega (arith, arriving)) good.cost;
      } in
      covered_by t.weight labels (at_near_customer g t a x) (at_near_customer g t b x) (closed.customer l y x covered.1 covered.2.1.1 taken) (omega (arith, fewer)) better

  pub station_step : (b : NearState) (x z : ℕ) → IsNetwork g → AreWithinFull g labels → IsNearCovered t.weight labels b → IsNearStationStep g b x z → IsNearCovered t.weight labels (at_near_station g b x z)
  station_step b x z network full covered step =
      let l = covered.0 in
      let y = covered.2.1.0 in
      let a = state_at (label_of l) y in
      let fewer = covered.2.0 in
      let good = covered.2.1.2 in
      let arriving = arrives g t.weight a b.state x good in
      let top = full l y covered.1 covered.2.1.1 in
      let charge = charging_less g.denominator (plug_time g x) (level_at g b.state x) (level_at g a x) z (curve_at g x) (rises_at g x network) (lower g t.weight a b.state x good) step.charges in
      let to = charge.0 in
      let within : to ≤ g.capacity = elim charge.2.1 [
        | inl same ↦ omega (arith, step.full)
        | inr high ↦ omega arith
      ] in
      let taken : IsStationStep g a x to = record {
        step = step_from g t.weight a b.state x good step.step;
        station = step.station;
        charges = charge.2.0;
        full = within;
        in_time = omega (arith, arriving, good.time, step.in_time, charge.2.2);
      } in
      let better : IsAsGood t.weight (at_station g a x to) (at_station g b.state x z) = record {
        last = good.last;
        node = refl;
        served = good.served;
        level = charge.1;
        time = omega (arith, arriving, good.time, charge.2.2);
        cost = no_dearer_later t.weight a.time b.state.time (at_station g a x to).time (at_station g b.state x z).time a.paid b.state.paid (omega (arith, arriving, charge.2.2)) good.cost;
      } in
      covered_by t.weight labels (at_near_station g (near_at l y) x to) (at_near_station g b x z) (closed.station l y x to covered.1 covered.2.1.1 taken) fewer better

  -- at home a vehicle has earned no more than it took
  pub home_step : (b : NearState) → IsNearCovered t.weight labels b → IsNearHomeStep g b → b.state.paid ≤ℤ pos (t.weight * time_at g b.state 0)
  home_step b covered step =
      let l = covered.0 in
      let y = covered.2.1.0 in
      let a = state_at (label_of l) y in
      let good = covered.2.1.2 in
      let arriving = arrives g t.weight a b.state 0 good in
      let taken : IsNearHomeStep g (near_at l y) = record {
        step = step_from g t.weight a b.state 0 good step.step;
        home = rw (good.node) (omega (arith, good.level, step.home));
        in_time = omega (arith, arriving, good.time, step.in_time);
      } in
      let free = closed.home l y covered.1 covered.2.1.1 taken in
      let moved = no_dearer_later t.weight a.time b.state.time (time_at g a 0) (time_at g b.state 0) a.paid b.state.paid (omega (arith, arriving)) good.cost in
      omega (arith, ints, free, moved)
