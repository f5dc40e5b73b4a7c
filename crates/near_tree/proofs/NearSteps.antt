-- What covers a state of a near route covers the states that its steps lead to.
use Rattle.std.proofs.Common.{◌≡◌, ℕ, ◌+◌, ◌*◌, ◌≤◌, ◌<◌, true, zero, suc, refl, subst, List, [], ◌∷◌, Option, Some, None, arith, inl, inr}
use Rattle.std.specs.List.{All}
use Rattle.std.specs.Prelude.{slice_index_or, ℤ, pos, ◌+ℤ◌, ◌-ℤ◌, ◌≤ℤ◌}
use Rattle.std.proofs.Math.Nat.{mul-le-mul_left}
use Rattle.std.proofs.lemmas.Int.{ints}
use Rattle.std.proofs.lemmas.List.Elements.{All-head, All-tail}
use Rattle.ev_model.specs.Curve.{charge_time}
use Rattle.ev_model.specs.Network.{curve_at, HasFittingCurve, is_customer, IsNetwork, Network, node_count, plug_time}
use Rattle.ev_model.proofs.ChargeTime.{charge_time-rises}
use Rattle.fleet_model.specs.Coverage.{IsAsGood}
use Rattle.fleet_model.specs.Labels.{State, state_at}
use Rattle.fleet_model.specs.Places.{customer_count, customer_number, place_of}
use Rattle.fleet_model.specs.Steps.{at_station, IsStationStep, IsStep, level_at, time_at}
use Rattle.fleet_model.proofs.Counts.{number_less}
use Rattle.fleet_model.proofs.Sets.{new_within}
use Rattle.fleet_model.proofs.Steps.{charging_less, good_trans}
use Rattle.near_tree.specs.Branches.{Branch}
use Rattle.near_tree.specs.Closed.{AreClosedAt}
use Rattle.near_tree.specs.Covered.{AreWithinFullAt, IsLeafCovered}
use Rattle.near_tree.specs.Follows.{StandsFor}
use Rattle.near_tree.specs.Sections.{NearSection, LeafState}
use Rattle.near_tree.specs.Steps.{at_leaf_customer, at_leaf_station, earned_at, IsLeafCustomerStep, IsLeafHomeStep, IsLeafStationStep, leaf_at}
use Rattle.near_proof.proofs.Memories.{remembers_fewer}
use Rattle.near_tree.proofs.Stands.{stands_further, stands_self}

-- what is covered covers what is worse, after a last that the other one stands for
pub covered_by : (g : Network) (b : Branch) (s : NearSection) (a c : LeafState) → IsLeafCovered g b s a → StandsFor g b s a.last c.last → IsAsGood s.weight a.state c.state → IsLeafCovered g b s c
covered_by g b s a c covered stands good =
    let l = covered.0 in
    let by = covered.2 in
    let y = by.state.0 in (
      l,
      covered.1,
      record {
        last = stands_further g b s l.last a.last c.last by.last stands;
        state = (y, by.state.1, good_trans s.weight (state_at l.label y) a.state c.state by.state.2 good);
      },
    )

-- a better state can take the same step, and is no later and no lower
step_from : (g : Network) (w : ℕ) (a b : State) (x : ℕ) → IsAsGood w a b → IsStep g b x → IsStep g a x
step_from g w a b x good step = record {
  known = step.known;
  moves = rw (good.node) step.moves;
  reaches = rw (good.node) (omega (arith, good.level, step.reaches));
}

arrives : (g : Network) (w : ℕ) (a b : State) (x : ℕ) → IsAsGood w a b → time_at g a x + b.time ≡ time_at g b x + a.time
arrives g w a b x good = rw (good.node) (omega arith)

lower : (g : Network) (w : ℕ) (a b : State) (x : ℕ) → IsAsGood w a b → level_at g b x ≤ level_at g a x
lower g w a b x good = rw (good.node) (omega (arith, good.level))

-- a cost that is no more stays so where the time grows by no more and no less is earned
no_dearer : (w ta tb xa xb : ℕ) (pa pb ea eb : ℤ) → xa + tb ≤ xb + ta → eb ≤ℤ ea → (pos (w * ta) -ℤ pa) ≤ℤ (pos (w * tb) -ℤ pb) →
    (pos (w * xa) -ℤ (ea +ℤ pa)) ≤ℤ (pos (w * xb) -ℤ (eb +ℤ pb))
no_dearer w ta tb xa xb pa pb ea eb slower earns cost =
    let scaled : w * (xa + tb) ≤ w * (xb + ta) = mul-le-mul_left w slower in
    let parts : w * xa + w * tb ≤ w * xb + w * ta = omega (arith, scaled) in
    omega (arith, ints, parts, earns, cost)

no_dearer_later : (w ta tb xa xb : ℕ) (pa pb : ℤ) → xa + tb ≤ xb + ta → (pos (w * ta) -ℤ pa) ≤ℤ (pos (w * tb) -ℤ pb) →
    (pos (w * xa) -ℤ pa) ≤ℤ (pos (w * xb) -ℤ pb)
no_dearer_later w ta tb xa xb pa pb slower cost =
    let none : pos 0 ≤ℤ pos 0 = omega (arith, ints) in
    omega (arith, ints, no_dearer w ta tb xa xb pa pb (pos 0) (pos 0) slower none cost)

-- charging to a higher level takes no less time
fitting : (full d x : ℕ) (curves : List (Option (List (ℕ × ℕ)))) (points : List (ℕ × ℕ)) → All (HasFittingCurve full d) curves → slice_index_or curves x None ≡ Some points → HasFittingCurve full d (Some points)
fitting full d x [] points fit is = absurd (grind (arith, is))
fitting full d zero (c ∷ curves) points fit is = subst (λ (q : Option (List (ℕ × ℕ))). HasFittingCurve full d q) is (All-head (HasFittingCurve full d) c curves fit)
fitting full d (suc x) (c ∷ curves) points fit is = fitting full d x curves points (All-tail (HasFittingCurve full d) c curves fit) is

rises_at : (g : Network) (x : ℕ) → IsNetwork g → (points : List (ℕ × ℕ)) → curve_at g x ≡ Some points → (a b : ℕ) → a ≤ b → charge_time g.denominator points a ≤ charge_time g.denominator points b
rises_at g x network points is a b le = charge_time-rises g.denominator points a b (fitting g.capacity g.denominator x g.curves points network.curves is).0.rises le

-- a customer's place is one of so many
pub place_low : (g : Network) (x : ℕ) → is_customer g x ≡ true → x < node_count g → place_of g x ≤ customer_count g
place_low g x is known = rw is (omega (arith, number_less g x (node_count g) is known))

module _ (g : Network) (b : Branch) (s : NearSection) (closed : AreClosedAt g b s) where
  pub customer_step : (a : LeafState) (x : ℕ) → IsLeafCovered g b s a → IsLeafCustomerStep g b a x → IsLeafCovered g b s (at_leaf_customer g b s a x)
  customer_step a x covered step =
      let l = covered.0 in
      let y = covered.2.state.0 in
      let own = leaf_at l y in
      let good = covered.2.state.2 in
      let arriving = arrives g s.weight own.state a.state x good in
      let c = customer_number g x in
      let next = covered.2.last (place_of g x) (place_low g x step.customer step.step.known) step.next in
      let taken : IsLeafCustomerStep g b own x = record {
        step = step_from g s.weight own.state a.state x good step.step;
        customer = step.customer;
        new = new_within c own.state.served a.state.served good.served step.new;
        next = next.0;
        in_time = omega (arith, arriving, good.time, step.in_time);
      } in
      let earns : earned_at g b s a.last x ≤ℤ earned_at g b s l.last x = omega (arith, ints, next.1) in
      let better : IsAsGood s.weight (at_leaf_customer g b s own x).state (at_leaf_customer g b s a x).state = record {
        last = refl;
        node = refl;
        served = remembers_fewer s.sets own.state.served a.state.served c good.served;
        level = lower g s.weight own.state a.state x good;
        time = omega (arith, arriving, good.time);
        cost = no_dearer s.weight own.state.time a.state.time (time_at g own.state x) (time_at g a.state x) own.state.paid a.state.paid (earned_at g b s l.last x) (earned_at g b s a.last x) (omega (arith, arriving)) earns good.cost;
      } in
      covered_by g b s (at_leaf_customer g b s own x) (at_leaf_customer g b s a x) (closed.customer l y x covered.1 covered.2.state.1 taken) (stands_self g b s (at_leaf_customer g b s a x).last) better

  pub station_step : (a : LeafState) (x z : ℕ) → IsNetwork g → AreWithinFullAt g s → IsLeafCovered g b s a → IsLeafStationStep g a x z → IsLeafCovered g b s (at_leaf_station g a x z)
  station_step a x z network full covered step =
      let l = covered.0 in
      let y = covered.2.state.0 in
      let own = state_at l.label y in
      let good = covered.2.state.2 in
      let arriving = arrives g s.weight own a.state x good in
      let top = full l y covered.1 covered.2.state.1 in
      let charge = charging_less g.denominator (plug_time g x) (level_at g a.state x) (level_at g own x) z (curve_at g x) (rises_at g x network) (lower g s.weight own a.state x good) step.charges in
      let to = charge.0 in
      let within : to ≤ g.capacity = elim charge.2.1 [
        | inl same ↦ omega (arith, step.full)
        | inr high ↦ omega arith
      ] in
      let taken : IsStationStep g own x to = record {
        step = step_from g s.weight own a.state x good step.step;
        station = step.station;
        charges = charge.2.0;
        full = within;
        in_time = omega (arith, arriving, good.time, step.in_time, charge.2.2);
      } in
      let better : IsAsGood s.weight (at_station g own x to) (at_station g a.state x z) = record {
        last = good.last;
        node = refl;
        served = good.served;
        level = charge.1;
        time = omega (arith, arriving, good.time, charge.2.2);
        cost = no_dearer_later s.weight own.time a.state.time (at_station g own x to).time (at_station g a.state x z).time own.paid a.state.paid (omega (arith, arriving, charge.2.2)) good.cost;
      } in
      covered_by g b s (at_leaf_station g (leaf_at l y) x to) (at_leaf_station g a x z) (closed.station l y x to covered.1 covered.2.state.1 taken) covered.2.last better

  -- at home a vehicle has earned no more than it took
  pub home_step : (a : LeafState) → IsLeafCovered g b s a → IsLeafHomeStep g b a → a.state.paid ≤ℤ pos (s.weight * time_at g a.state 0)
  home_step a covered step =
      let l = covered.0 in
      let y = covered.2.state.0 in
      let own = state_at l.label y in
      let good = covered.2.state.2 in
      let arriving = arrives g s.weight own a.state 0 good in
      let next = covered.2.last 0 (omega arith) step.next in
      let taken : IsLeafHomeStep g b (leaf_at l y) = record {
        step = step_from g s.weight own a.state 0 good step.step;
        next = next.0;
        home = rw (good.node) (omega (arith, good.level, step.home));
        in_time = omega (arith, arriving, good.time, step.in_time);
      } in
      let free = closed.home l y covered.1 covered.2.state.1 taken in
      let moved = no_dearer_later s.weight own.time a.state.time (time_at g own 0) (time_at g a.state 0) own.paid a.state.paid (omega (arith, arriving)) good.cost in
      omega (arith, ints, free, moved)
