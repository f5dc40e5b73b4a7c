-- What covers a state covers the states that its steps lead to.
use Rattle.std.proofs.Common.{◌≡◌, ℕ, ◌+◌, ◌*◌, ◌≤◌, zero, suc, refl, subst, List, [], ◌∷◌, Option, Some, None, arith, ◌⊎◌, inl, inr}
use Rattle.std.specs.List.{All}
use Rattle.std.specs.Prelude.{slice_index_or, nat_lt, if◌then◌else◌, ℤ, pos, ◌+ℤ◌, ◌-ℤ◌, ◌≤ℤ◌}
use Rattle.std.proofs.Math.Nat.{mul-le-mul_left}
use Rattle.std.proofs.lemmas.Bool.{cases_lt, lt-ltb, le-ltb}
use Rattle.std.proofs.lemmas.Int.{ints}
use Rattle.std.proofs.lemmas.List.Elements.{All-head, All-tail}
use Rattle.ev_model.specs.Curve.{charge_time}
use Rattle.ev_model.specs.Network.{Network, IsNetwork, HasFittingCurve, curve_at, plug_time}
use Rattle.ev_model.specs.Time.{charging_time}
use Rattle.ev_model.proofs.ChargeTime.{charge_time-rises, charge_time_in-one}
use Rattle.fleet_model.specs.Places.{customer_number}
use Rattle.fleet_model.specs.Labels.{State, state_at}
use Rattle.fleet_model.specs.Prices.{price_of}
use Rattle.fleet_model.specs.Section.{Section, IsSectionOf}
use Rattle.fleet_model.specs.Coverage.{IsAsGood, IsCovered}
use Rattle.fleet_model.specs.Steps.{level_at, time_at, IsStep, at_customer, IsCustomerStep, at_station, IsStationStep, IsHomeStep}
use Rattle.fleet_model.specs.ClosedList.{IsClosed}
use Rattle.fleet_model.proofs.Sets.{within_more, new_within, within_trans}

pub good_trans : (w : ℕ) (a b c : State) → IsAsGood w a b → IsAsGood w b c → IsAsGood w a c
good_trans w a b c first second = record {
  last = cc (first.last, second.last);
  node = cc (first.node, second.node);
  served = within_trans a.served b.served c.served first.served second.served;
  level = omega (arith, first.level, second.level);
  time = omega (arith, first.time, second.time);
  cost = omega (arith, ints, first.cost, second.cost);
}

pub covered_by_good : (s : Section) (a b : State) → IsCovered s a → IsAsGood s.weight a b → IsCovered s b
covered_by_good s a b covered good =
    (covered.0, covered.1, (covered.2.0, covered.2.1, good_trans s.weight (state_at covered.0 covered.2.0) a b covered.2.2 good))

-- a better state can take the same step
step_from : (g : Network) (w : ℕ) (a b : State) (x : ℕ) → IsAsGood w a b → IsStep g b x → IsStep g a x
step_from g w a b x good step = record {
  known = step.known;
  moves = rw (good.node) step.moves;
  reaches = rw (good.node) (omega (arith, good.level, step.reaches));
}

-- and is no later and no lower
arrives : (g : Network) (w : ℕ) (a b : State) (x : ℕ) → IsAsGood w a b → time_at g a x + b.time ≡ time_at g b x + a.time
arrives g w a b x good = rw (good.node) (omega arith)

lower : (g : Network) (w : ℕ) (a b : State) (x : ℕ) → IsAsGood w a b → level_at g b x ≤ level_at g a x
lower g w a b x good = rw (good.node) (omega (arith, good.level))

-- a cost that is no more stays so where the time grows by no more and the same is paid
dearer : (w ta tb xa xb : ℕ) (pa pb more : ℤ) → xa + tb ≤ xb + ta → (pos (w * ta) -ℤ pa) ≤ℤ (pos (w * tb) -ℤ pb) →
    (pos (w * xa) -ℤ (more +ℤ pa)) ≤ℤ (pos (w * xb) -ℤ (more +ℤ pb))
dearer w ta tb xa xb pa pb more slower cost =
    let scaled : w * (xa + tb) ≤ w * (xb + ta) = mul-le-mul_left w slower in
    let parts : w * xa + w * tb ≤ w * xb + w * ta = omega (arith, scaled) in
    omega (arith, ints, parts, cost)

-- the same where nothing is paid
dearer_later : (w ta tb xa xb : ℕ) (pa pb : ℤ) → xa + tb ≤ xb + ta → (pos (w * ta) -ℤ pa) ≤ℤ (pos (w * tb) -ℤ pb) →
    (pos (w * xa) -ℤ pa) ≤ℤ (pos (w * xb) -ℤ pb)
dearer_later w ta tb xa xb pa pb slower cost = omega (arith, ints, dearer w ta tb xa xb pa pb (pos 0) slower cost)

-- the curve of a station reaches a full battery
fitting : (full d x : ℕ) (curves : List (Option (List (ℕ × ℕ)))) (points : List (ℕ × ℕ)) → All (HasFittingCurve full d) curves → slice_index_or curves x None ≡ Some points → HasFittingCurve full d (Some points)
fitting full d x [] points fit is = absurd (grind (arith, is))
fitting full d zero (c ∷ curves) points fit is = subst (λ (q : Option (List (ℕ × ℕ))). HasFittingCurve full d q) is (All-head (HasFittingCurve full d) c curves fit)
fitting full d (suc x) (c ∷ curves) points fit is = fitting full d x curves points (All-tail (HasFittingCurve full d) c curves fit) is

rises_at : (g : Network) (x : ℕ) → IsNetwork g → (points : List (ℕ × ℕ)) → curve_at g x ≡ Some points → (a b : ℕ) → a ≤ b → charge_time g.denominator points a ≤ charge_time g.denominator points b
rises_at g x network points is a b le = charge_time-rises g.denominator points a b (fitting g.capacity g.denominator x g.curves points network.curves is).0.rises le

-- to a level above both, the charge from the higher one takes no longer
less_charge : (d low high z : ℕ) (curve : Option (List (ℕ × ℕ))) → ((points : List (ℕ × ℕ)) → curve ≡ Some points → (a b : ℕ) → a ≤ b → charge_time d points a ≤ charge_time d points b)
    → low ≤ high → charging_time 1 d curve high z ≤ charging_time 1 d curve low z
less_charge d low high z None up le = omega arith
less_charge d low high z (Some points) up le =
    rw (charge_time_in-one d points high, charge_time_in-one d points low, charge_time_in-one d points z) (omega (arith, up points refl low high le))

no_charge : (d high : ℕ) (curve : Option (List (ℕ × ℕ))) → charging_time 1 d curve high high ≡ 0
no_charge d high None = refl
no_charge d high (Some points) = omega arith

-- from a higher level a vehicle can charge to no lower a level in no more time, plugging in included
pub charging_less : (d plug low high z : ℕ) (curve : Option (List (ℕ × ℕ))) → ((points : List (ℕ × ℕ)) → curve ≡ Some points → (a b : ℕ) → a ≤ b → charge_time d points a ≤ charge_time d points b)
    → low ≤ high → low ≤ z → (to : ℕ) × (z ≤ to) × ((high ≤ to) × ((to ≡ z) ⊎ (to ≡ high))
    × (d * (if nat_lt high to then plug else 0) + charging_time 1 d curve high to ≤ d * (if nat_lt low z then plug else 0) + charging_time 1 d curve low z))
charging_less d plug low high z curve up le lz = elim (cases_lt high z) [
  | inl over ↦
      let first = lt-ltb high z over in
      let second = lt-ltb low z (omega (arith, over, le)) in
      (z, omega arith, (omega (arith, over), inl refl, rw (first, second) (omega (arith, less_charge d low high z curve up le))))
  | inr under ↦
      let none = le-ltb high high (omega arith) in
      (high, omega (arith, under), (omega arith, inr refl, rw none (omega (arith, no_charge d high curve))))
]

pub station_step : (g : Network) (s : Section) (b : State) (x z : ℕ) → IsNetwork g → IsSectionOf g s → IsClosed g s → IsCovered s b → IsStationStep g b x z → IsCovered s (at_station g b x z)
station_step g s b x z network of closed covered step =
    let l = covered.0 in
    let y = covered.2.0 in
    let a = state_at l y in
    let good = covered.2.2 in
    let arriving = arrives g s.weight a b x good in
    let top = of.levels l y covered.1 covered.2.1 in
    let charge = charging_less g.denominator (plug_time g x) (level_at g b x) (level_at g a x) z (curve_at g x) (rises_at g x network) (lower g s.weight a b x good) step.charges in
    let to = charge.0 in
    let within : to ≤ g.capacity = elim charge.2.1 [
      | inl same ↦ omega (arith, step.full)
      | inr high ↦ omega arith
    ] in
    let taken : IsStationStep g a x to = record {
      step = step_from g s.weight a b x good step.step;
      station = step.station;
      charges = charge.2.0;
      full = within;
      in_time = omega (arith, arriving, good.time, step.in_time, charge.2.2);
    } in
    let better : IsAsGood s.weight (at_station g a x to) (at_station g b x z) = record {
      last = good.last;
      node = refl;
      served = good.served;
      level = charge.1;
      time = omega (arith, arriving, good.time, charge.2.2);
      cost = dearer_later s.weight a.time b.time (at_station g a x to).time (at_station g b x z).time a.paid b.paid (omega (arith, arriving, charge.2.2)) good.cost;
    } in
    covered_by_good s (at_station g a x to) (at_station g b x z) (closed.station l y x to covered.1 covered.2.1 taken) better

-- at home a vehicle has paid no more than it took
pub home_step : (g : Network) (s : Section) (b : State) → IsClosed g s → IsCovered s b → IsHomeStep g s b → b.paid ≤ℤ pos (s.weight * time_at g b 0)
home_step g s b closed covered step =
    let l = covered.0 in
    let y = covered.2.0 in
    let a = state_at l y in
    let good = covered.2.2 in
    let arriving = arrives g s.weight a b 0 good in
    let taken : IsHomeStep g s a = record {
      step = step_from g s.weight a b 0 good step.step;
      some = rw (good.last) step.some;
      allowed = rw (good.last) step.allowed;
      home = rw (good.node) (omega (arith, good.level, step.home));
      in_time = omega (arith, arriving, good.time, step.in_time);
    } in
    let free = closed.home l y covered.1 covered.2.1 taken in
    let moved = dearer_later s.weight a.time b.time (time_at g a 0) (time_at g b 0) a.paid b.paid (omega (arith, arriving)) good.cost in
    omega (arith, ints, free, moved)

pub customer_step : (g : Network) (s : Section) (b : State) (x : ℕ) → IsClosed g s → IsCovered s b → IsCustomerStep g s b x → IsCovered s (at_customer g s b x)
customer_step g s b x closed covered step =
    let l = covered.0 in
    let y = covered.2.0 in
    let a = state_at l y in
    let good = covered.2.2 in
    let arriving = arrives g s.weight a b x good in
    let taken : IsCustomerStep g s a x = record {
      step = step_from g s.weight a b x good step.step;
      customer = step.customer;
      new = new_within (customer_number g x) a.served b.served good.served step.new;
      allowed = rw (good.last) step.allowed;
      in_time = omega (arith, arriving, good.time, step.in_time);
    } in
    let better : IsAsGood s.weight (at_customer g s a x) (at_customer g s b x) = record {
      last = refl;
      node = refl;
      served = within_more (customer_number g x) a.served b.served good.served;
      level = lower g s.weight a b x good;
      time = omega (arith, arriving, good.time);
      cost = dearer s.weight a.time b.time (time_at g a x) (time_at g b x) a.paid b.paid (price_of s.prices (customer_number g x)) (omega (arith, arriving)) good.cost;
    } in
    covered_by_good s (at_customer g s a x) (at_customer g s b x) (closed.customer l y x covered.1 covered.2.1 taken) better
