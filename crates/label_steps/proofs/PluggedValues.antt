-- Values after plugging in and charging.
use Rattle.std.proofs.Common.{◌≡◌, ℕ, zero, suc, ◌+◌, ◌-◌, ◌*◌, ◌<◌, ◌≤◌, inl, inr, List, [], ◌∷◌, length, set, get_or, refl, sym, ◌∙◌, ap, subst, arith, Option, Some, None, true, false}
use Rattle.std.specs.Prelude.{Bool, MatchOption, nat_lt, if◌then◌else◌, slice_get}
use Rattle.std.specs.List.{All, AllZip}
use Rattle.std.specs.Option.{IsSome}
use Rattle.std.proofs.lemmas.Option.{same_Some, none-some}
use Rattle.std.proofs.lemmas.Bool.{cases_eq, false≢true, le-leb}
use Rattle.std.proofs.lemmas.List.Elements.{All-head, All-tail}
use Rattle.ev_model.specs.Network.{Network, curve_at, plug_time, scaled_limit}
use Rattle.ev_model.specs.Time.{charging_time}
use Rattle.charge_curve.specs.Points.{last_level, time_on}
use Rattle.dominance.specs.Coverage.{CoversEach, Reaches, SomeReaches}
use Rattle.dominance.specs.LevelTimes.{IsLevel, LevelTimes, time_at}
use Rattle.dominance.specs.Steps.{IsCharge, IsChargeFrom, IsShift}
use Rattle.instance_reader.specs.Instance.{IsCurveAt}
use Rattle.piece_fn.specs.PieceFn.{level_times}
use Rattle.label_steps.specs.Arrivals.{CoversVehicle}
use Rattle.label_steps.specs.Leaves.{AreLeft, CoverCharges, IsPlugged, charge_time_at}
use Rattle.label_steps.specs.OneLevel.{one_level}
use Rattle.label_steps.specs.Paying.{AreCharged}
use Rattle.label_steps.proofs.Vehicles.{reaches_vehicle, shifted_covers}
use Rattle.label_steps.proofs.ChargingTimes.{station_charging, station_has_curve}
use Rattle.label_steps.proofs.OneLevel.{charged_point}

plug_less : (d p : ℕ) (b : Bool) → d * (if b then p else 0) ≤ d * p
plug_less d p true = omega arith
plug_less d p false = omega arith

zipped : (P : ℕ × ℕ → Type 0) (R : ℕ × ℕ → List (ℕ × ℕ) → Type 0) (xs : List (ℕ × ℕ)) (ys : List (List (ℕ × ℕ))) (k : ℕ) (w : List (ℕ × ℕ)) → All P xs → AllZip R xs ys → slice_get ys k ≡ Some w → (x : ℕ × ℕ) × P x × R x w
zipped P R [] [] k w all zip here = absurd (none-some w here)
zipped P R [] (y ∷ ys) k w all zip here = absurd zip
zipped P R (x ∷ xs) [] k w all zip here = absurd zip
zipped P R (x ∷ xs) (y ∷ ys) zero w all zip here = (x, All-head P x xs all, subst (λ v. R x v) (same_Some y w here) zip.0)
zipped P R (x ∷ xs) (y ∷ ys) (suc k) w all zip here = zipped P R xs ys k w (All-tail P x xs all) zip.1 here

-- one value, where nothing can be charged
pub single_covers : (g : Network) (node : ℕ) (arrived : List (ℕ × ℕ)) (values : List (List (ℕ × ℕ))) → ((level time added : ℕ) → 0 < added → CoversVehicle (level_times arrived) level time → IsSome (curve_at g node) → time + charge_time_at g node level added ≤ scaled_limit g → ⊥)
    → values ≡ arrived ∷ [] → CoverCharges g node arrived values
single_covers g node arrived values none one level time added covers station within in_time = elim (cases_eq added 0) [
  | inl nothing ↦
      let r = reaches_vehicle (level_times arrived) level time covers in
      subst (λ vs. SomeReaches level_times vs 0 (level + added) (time + charge_time_at g node level added)) (sym one)
      (0, arrived, omega arith, refl, (r.0, r.1, (omega (arith, r.2.0, nothing), omega (arith, r.2.1))))
  | inr some ↦
      let more : 0 < added = omega (arith, some) in
      absurd (none level time added more covers (station more) in_time)
]

no_some : (o : Option (List (ℕ × ℕ))) → o ≡ None → IsSome o → ⊥
no_some None none some = false≢true some
no_some (Some x) none some = cc

pub no_curve : (g : Network) (node : ℕ) (arrived : List (ℕ × ℕ)) → curve_at g node ≡ None → (level time added : ℕ) → 0 < added → CoversVehicle (level_times arrived) level time → IsSome (curve_at g node) → time + charge_time_at g node level added ≤ scaled_limit g → ⊥
no_curve g node arrived none level time added more covers station in_time = no_some (curve_at g node) none station

module _ (g : Network) (node plug limit : ℕ) (plug_is : plug ≡ g.denominator * plug_time g node) (limit_is : limit ≡ scaled_limit g) (arrived : List (ℕ × ℕ)) (o : Option (List (ℕ × ℕ)))
    (keeps : (other left : LevelTimes) (extra : ℕ) → CoversEach (level_times arrived) other extra → IsShift 0 plug limit other left → MatchOption o ((x : ℕ) → IsLevel left x → ⊥) (λ w. CoversEach (level_times w) left extra)) where
  -- the time of a charge is at least that of plugging in
  charge_parts : (level added : ℕ) → 0 < added → charge_time_at g node level added ≡ plug + charging_time 1 g.denominator (curve_at g node) level (level + added)
  charge_parts level added more =
      let flag : nat_lt 0 added ≡ true = le-leb 1 added (omega arith) in
      let paid : g.denominator * (if nat_lt 0 added then plug_time g node else 0) ≡ g.denominator * plug_time g node = rw flag refl in
      omega (arith, paid, plug_is)

  plugs : (level time added : ℕ) → 0 < added → CoversVehicle (level_times arrived) level time → time + charge_time_at g node level added ≤ scaled_limit g → MatchOption o ⊥ (λ w. CoversVehicle (level_times w) (level - 0) (time + plug))
  plugs level time added more covers in_time =
      let parts = charge_parts level added more in
      shifted_covers level_times 0 plug limit level time (level_times arrived) o keeps covers (omega arith) (omega (arith, parts, in_time, limit_is))

  pub no_plug : o ≡ None → (level time added : ℕ) → 0 < added → CoversVehicle (level_times arrived) level time → IsSome (curve_at g node) → time + charge_time_at g node level added ≤ scaled_limit g → ⊥
  no_plug none level time added more covers station in_time = subst (λ (x : Option (List (ℕ × ℕ))). MatchOption x ⊥ (λ w. CoversVehicle (level_times w) (level - 0) (time + plug))) none (plugs level time added more covers in_time)

  module _ (plugged curve : List (ℕ × ℕ)) (some : o ≡ Some plugged) (moved : IsShift 0 plug limit (level_times arrived) (level_times plugged)) (station : IsCurveAt g node curve) (low : (level : ℕ) → IsLevel (level_times arrived) level → level ≤ g.capacity)
      (points : List (ℕ × ℕ)) (points_are : All (λ start. IsLevel (level_times plugged) start.0) points) where
    arrived_at : (level : ℕ) → IsLevel (level_times plugged) level → IsLevel (level_times arrived) level × (time_at (level_times plugged) level ≡ time_at (level_times arrived) level + plug)
    arrived_at level is =
        let back : level + 0 ≡ level = omega arith in
        (subst (λ l. IsLevel (level_times arrived) l) back ((moved.left level).0 is).0, moved.later level is ∙ ap (λ l. time_at (level_times arrived) l + plug) back)

    pub plugged_low : (level : ℕ) → IsLevel (level_times plugged) level → level ≤ last_level curve
    plugged_low level is = let below = low level (arrived_at level is).0 in let full = station.2.full in omega (arith, below, full)

    plugged_reaches : (level time : ℕ) → Reaches (level_times plugged) 0 level time → Reaches (level_times arrived) 0 level time
    plugged_reaches level time r = let at = arrived_at r.0 r.1 in (r.0, at.0, (r.2.0, omega (arith, r.2.1, at.1)))

    is_plugged : (from : ℕ) (w : LevelTimes) → IsLevel (level_times plugged) from → IsChargeFrom (level_times plugged) curve limit from w → IsPlugged g node (level_times arrived) w
    is_plugged from w is charge =
        let at = arrived_at from is in
        let low_from = low from at.0 in
        record {
          station = station_has_curve g node curve station;
          from = λ level there.
              let bounds = (charge.levels level).0 there in
              let full = station.2.full in
              let first = charge.begins in
              (subst (λ l. IsLevel (level_times arrived) l) (sym first) at.0, omega (arith, first, bounds.0), omega (arith, bounds.1, full));
          no_later = λ level there.
              let bounds = (charge.levels level).0 there in
              let full = station.2.full in
              let later = charge.later level there in
              let same : from + (level - from) ≡ level = omega (arith, bounds.0) in
              let time = station_charging g node curve from level station low_from (omega (arith, bounds.1, full)) in
              let charging : charging_time 1 g.denominator (curve_at g node) from (from + (level - from)) ≡ charging_time 1 g.denominator (curve_at g node) from level = ap (λ l. charging_time 1 g.denominator (curve_at g node) from l) same in
              let paid = plug_less g.denominator (plug_time g node) (nat_lt 0 (level - from)) in
              let whole : time_at (level_times arrived) from + charge_time_at g node from (level - from) ≤ time_at w level = omega (arith, later, time, charging, paid, at.1, plug_is) in
              subst (λ f. time_at (level_times arrived) f + charge_time_at g node f (level - f) ≤ time_at w level) (sym charge.begins) whole;
          in_time = λ level there.
              let bounds = (charge.levels level).0 there in
              let later = charge.later level there in
              omega (arith, bounds.2, later, limit_is);
        }

    charges_left_at : (rest : List (List (ℕ × ℕ))) → AllZip (λ start after. IsChargeFrom (level_times plugged) curve limit start.0 (level_times after)) points rest → (k : ℕ) (w : List (ℕ × ℕ)) → slice_get (arrived ∷ rest) k ≡ Some w → 0 < k
        → IsPlugged g node (level_times arrived) (level_times w)
    charges_left_at rest zip zero w here more = absurd (omega arith)
    charges_left_at rest zip (suc k) w here more =
        let found = zipped (λ start. IsLevel (level_times plugged) start.0) (λ start after. IsChargeFrom (level_times plugged) curve limit start.0 (level_times after)) points rest k w points_are zip here in
        is_plugged found.0.0 (level_times w) found.1 found.2

    pub charges_left : (values : List (List (ℕ × ℕ))) → AreCharged plugged curve limit points values → AreLeft g node arrived (set values 0 arrived)
    charges_left [] is = absurd is
    charges_left (u ∷ rest) is = record {
      passing = λ w here. sym (same_Some arrived w here);
      plugged = λ k w here more. charges_left_at rest is.1 k w here more;
    }

    swapped_at : (u : List (ℕ × ℕ)) (rest : List (List (ℕ × ℕ))) (level time : ℕ) → u ≡ plugged → (k : ℕ) (x : List (ℕ × ℕ)) → k < length (u ∷ rest) → get_or (u ∷ rest) k x ≡ x → Reaches (level_times x) 0 level time
        → SomeReaches level_times (arrived ∷ rest) 0 level time
    swapped_at u rest level time unchanged zero x within read reach =
        (0, arrived, omega arith, refl, plugged_reaches level time (subst (λ v. Reaches (level_times v) 0 level time) (sym read ∙ unchanged) reach))
    swapped_at u rest level time unchanged (suc k) x within read reach = (suc k, x, omega arith, read, reach)

    swapped : (values : List (List (ℕ × ℕ))) (level time : ℕ) → AreCharged plugged curve limit points values → SomeReaches level_times values 0 level time → SomeReaches level_times (set values 0 arrived) 0 level time
    swapped [] level time is some_reach = absurd is
    swapped (u ∷ rest) level time is some_reach = swapped_at u rest level time is.0 some_reach.0 some_reach.1 some_reach.2 some_reach.3 some_reach.4

    first_reaches : (values : List (List (ℕ × ℕ))) (level time : ℕ) → AreCharged plugged curve limit points values → Reaches (level_times arrived) 0 level time → SomeReaches level_times (set values 0 arrived) 0 level time
    first_reaches [] level time is r = absurd is
    first_reaches (u ∷ rest) level time is r = (0, arrived, omega arith, refl, r)

    pub charges_cover : (values : List (List (ℕ × ℕ))) → AreCharged plugged curve limit points values
        → ((other : LevelTimes) (extra level time : ℕ) → CoversEach (level_times plugged) other extra → IsCharge other curve limit level time → SomeReaches level_times values extra level time) → CoverCharges g node arrived (set values 0 arrived)
    charges_cover values is covers_charges level time added covers has within in_time = elim (cases_eq added 0) [
      | inl nothing ↦
          let r = reaches_vehicle (level_times arrived) level time covers in
          first_reaches values (level + added) (time + charge_time_at g node level added) is (r.0, r.1, (omega (arith, r.2.0, nothing), omega (arith, r.2.1)))
      | inr apart ↦
          let more : 0 < added = omega (arith, apart) in
          let parts = charge_parts level added more in
          let full = station.2.full in
          let back : level - 0 ≡ level = omega arith in
          let plugs_in : CoversVehicle (level_times plugged) (level - 0) (time + plug) = subst (λ (x : Option (List (ℕ × ℕ))). MatchOption x ⊥ (λ w. CoversVehicle (level_times w) (level - 0) (time + plug))) some (plugs level time added more covers in_time) in
          let there : CoversVehicle (level_times plugged) level (time + plug) = subst (λ l. CoversVehicle (level_times plugged) l (time + plug)) back plugs_in in
          let charging = station_charging g node curve level (level + added) station (omega (arith, within)) within in
          let charge = charged_point curve limit level (time + plug) (level + added) (omega arith) (omega (arith, within, full)) (omega (arith, charging, parts, in_time, limit_is)) in
          let found = covers_charges (one_level level (time + plug)) 0 (level + added) (time + plug + (time_on curve (level + added) - time_on curve level)) there charge in
          let time_is : time + plug + (time_on curve (level + added) - time_on curve level) ≡ time + charge_time_at g node level added = omega (arith, charging, parts) in
          swapped values (level + added) (time + charge_time_at g node level added) is (subst (λ x. SomeReaches level_times values 0 (level + added) x) time_is found)
    ]
