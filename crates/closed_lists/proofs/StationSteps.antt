-- What the values on leaving a station say of the steps to it from a label.
use Rattle.std.proofs.Common.{◌≡◌, ◌≢◌, ◌∙◌, ℕ, zero, suc, ◌+◌, ◌-◌, ◌<◌, ◌≤◌, Bool, true, false, List, Option, None, Some, length, refl, sym, ap, subst, arith, inl, inr}
use Rattle.std.specs.Prelude.{IsSome, slice_get, slice_index_or}
use Rattle.std.proofs.lemmas.Bool.{cases_eq}
use Rattle.std.proofs.lemmas.Option.{same_Some, slice_get_read}
use Rattle.dominance.specs.LevelTimes.{IsLevel, time_at as value_time}
use Rattle.ev_model.specs.Network.{curve_at, energy, node_count, scaled_limit}
use Rattle.fleet_model.specs.Coverage.{IsCovered}
use Rattle.fleet_model.specs.Labels.{state_at as label_state}
use Rattle.fleet_model.specs.Prices.{price_sum}
use Rattle.fleet_model.specs.Section.{Section}
use Rattle.fleet_model.specs.Steps.{at_station, IsStationStep, level_at}
use Rattle.fleet_model.proofs.Steps.{covered_by_good}
use Rattle.piece_fn.specs.PieceFn.{level_times}
use Rattle.piece_fn.specs.declared.label.Label.{Label}
use Rattle.label_steps.specs.Arrivals.{ArrivesAs, drive_time, IsWithin}
use Rattle.label_steps.specs.Leaves.{AreLeft, charge_time_at, CoverCharges}
use Rattle.label_steps.proofs.Arrivals.{arrives_at}
use Rattle.label_steps.proofs.Stops.{charge_between, passing_time}
use Rattle.label_steps.proofs.Vehicles.{covers_vehicle}
use Rattle.closed_lists.specs.Questions.{Question, section}
use Rattle.closed_lists.specs.Sections.{paid_label}
use Rattle.closed_lists.specs.Targets.{IsCoveredAll, IsMissed, state_at, state_of, TellsEach}
use Rattle.closed_lists.specs.Tellings.{IsUncovered, TellsStep}
use Rattle.closed_lists.specs.declared.coverage.Target.{Target}
use Rattle.closed_lists.proofs.LabelSteps.{later, station_alone}

-- a further value is covered
pub covered_more : (s : Section) (t : Target) (xs : List (List (ℕ × ℕ))) (n : ℕ) (x : List (ℕ × ℕ)) → n < length xs → x ≡ slice_index_or xs n x → ((k : ℕ) (w : List (ℕ × ℕ)) → k < n → slice_get xs k ≡ Some w → IsCoveredAll s t w) → IsCoveredAll s t x
    → (k : ℕ) (w : List (ℕ × ℕ)) → k < n + 1 → slice_get xs k ≡ Some w → IsCoveredAll s t w
covered_more s t xs n x less is before here k w high there = elim (cases_eq k n) [
  | inl same ↦
      let own : slice_get xs n ≡ Some x = slice_get_read xs (length xs) n x refl less is in
      let value : x ≡ w = same_Some x w (sym own ∙ subst (λ j. slice_get xs j ≡ Some w) same there) in
      subst (IsCoveredAll s t) value here
  | inr other ↦ before k w (omega (arith, high, other)) there
]

-- what a station's target has to be
pub record IsStationTarget (q : Question) (l : Label) (x : ℕ) (t : Target) : Type 0 where
  pub last : t.last ≡ l.last
  pub node : t.node ≡ x
  pub set : t.set ≡ l.set
  pub paid : t.paid ≡ price_sum q.prices l.set

read_at : (values : List (List (ℕ × ℕ))) (k : ℕ) (v : List (ℕ × ℕ)) → k < length values → slice_index_or values k v ≡ v → slice_get values k ≡ Some v
read_at values k v less is = slice_get_read values (length values) k v refl less (sym is)

some_points : (o : Option (List (ℕ × ℕ))) → IsSome o → (points : List (ℕ × ℕ)) × (o ≡ Some points)
some_points None some = absurd (grind (arith, some))
some_points (Some points) some = (points, refl)

module _ (q : Question) (l : Label) (x : ℕ) (t : Target) (is : IsStationTarget q l x t) (station : IsSome (curve_at q.network x)) where
  -- the time of a step, by that of the arc and that of the charge
  step_time : (y z : ℕ) → level_at q.network (label_state (paid_label q.prices l) y) x ≤ z →
      (at_station q.network (label_state (paid_label q.prices l) y) x z).time ≡ value_time (level_times l.value) y + drive_time q.network l.node x + charge_time_at q.network x (y - energy q.network l.node x) (z - (y - energy q.network l.node x))
  step_time y z low =
      let parts = charge_between q.network x (y - energy q.network l.node x) z low in
      omega (arith, parts)

  module _ (w : List (ℕ × ℕ)) (arrival : ArrivesAs q.network l.value l.node x q.network.reserve (Some w)) (values : List (List (ℕ × ℕ))) where
    -- where each value on leaving is covered, so is each step
    pub station_covered : CoverCharges q.network x w values → ((k : ℕ) (v : List (ℕ × ℕ)) → slice_get values k ≡ Some v → IsCoveredAll (section q) t v) → IsUncovered q l x → ⊥
    station_covered covers all = let points = some_points (curve_at q.network x) station in station_alone q l x points.0 points.1 (λ y z level step.
        let v = level_times l.value in
        let a = y - energy q.network l.node x in
        let drive = drive_time q.network l.node x in
        let parts = step_time y z step.charges in
        let up : y - energy q.network l.node x + (z - (y - energy q.network l.node x)) ≡ z = omega (arith, step.charges) in
        let at = arrives_at q.network l.value l.node x q.network.reserve w arrival y level step.step.reaches (omega (arith, parts, step.in_time)) in
        let vehicle = covers_vehicle (level_times w) a (value_time v y + drive) (a, at.0, (omega arith, omega (arith, at.1))) in
        let found = covers a (value_time v y + drive) (z - a) vehicle (λ more. station) (omega (arith, up, step.full)) (omega (arith, parts, step.in_time)) in
        let reach = found.4 in
        let here = all found.0 found.1 (read_at values found.0 found.1 found.2 found.3) in
        covered_by_good (section q) (state_of t found.1 reach.0) (at_station q.network (label_state (paid_label q.prices l) y) x z) (here reach.0 reach.1)
        (later (section q) (state_of t found.1 reach.0) (at_station q.network (label_state (paid_label q.prices l) y) x z) is.last is.node (rw (is.set) (λ c h. h)) (omega (arith, reach.2.0, up)) (omega (arith, reach.2.1, parts)) is.paid))

    module _ (known : x < node_count q.network) (moves : x ≢ l.node) where
      -- a charge, or none, that leads to a state that is not covered
      step_missed : (a z time : ℕ) → IsLevel (level_times w) a → a ≤ z → z ≤ q.network.capacity → value_time (level_times w) a + charge_time_at q.network x a (z - a) ≤ time → time ≤ scaled_limit q.network
          → (IsCovered (section q) (state_at t z time) → ⊥) → IsUncovered q l x
      step_missed a z time level low full no_later in_time missed =
          let e = energy q.network l.node x in
          let at = (arrival.left a).0 level in
          let gone : a + energy q.network l.node x - energy q.network l.node x ≡ a = omega arith in
          let from : a + energy q.network l.node x - energy q.network l.node x ≤ z = omega (arith, low) in
          let parts = step_time (a + energy q.network l.node x) z from in
          let charge : charge_time_at q.network x (a + energy q.network l.node x - energy q.network l.node x) (z - (a + energy q.network l.node x - energy q.network l.node x)) ≡ charge_time_at q.network x a (z - a) = ap (λ k. charge_time_at q.network x k (z - k)) gone in
          let value = arrival.later a level in
          let step : IsStationStep q.network (label_state (paid_label q.prices l) (a + energy q.network l.node x)) x z = record {
            step = record { known = known; moves = moves; reaches = omega (arith, at.1) };
            station = station;
            charges = from;
            full = full;
            in_time = omega (arith, parts, charge, value, no_later, in_time);
          } in (
            a + e,
            at.0,
            inr (
              z,
              step,
              λ covered. missed
                  (covered_by_good (section q) (at_station q.network (label_state (paid_label q.prices l) (a + energy q.network l.node x)) x z) (state_at t z time) covered
                  (later (section q) (at_station q.network (label_state (paid_label q.prices l) (a + energy q.network l.node x)) x z) (state_at t z time) (sym is.last) (sym is.node) (rw (is.set) (λ c h. h)) (omega arith) (omega (arith, parts, charge, value, no_later)) (sym is.paid))),
            ),
          )

      -- so is a step where some value on leaving is not covered
      pub station_missed : AreLeft q.network x w values → IsWithin q.network w → (k : ℕ) (v : List (ℕ × ℕ)) → slice_get values k ≡ Some v → IsMissed (section q) t v → IsUncovered q l x
      station_missed left within zero v here missed =
          let same : v ≡ w = left.passing v here in
          let own : IsMissed (section q) t w = subst (IsMissed (section q) t) same missed in
          let nothing : own.0 - own.0 ≡ 0 = omega arith in
          let none : charge_time_at q.network x own.0 (own.0 - own.0) ≡ 0 = ap (λ k. charge_time_at q.network x own.0 k) nothing ∙ passing_time q.network x own.0 in
          step_missed own.0 own.0 (value_time (level_times w) own.0) own.1 (omega arith) (within.levels own.0 own.1) (omega (arith, none)) (within.times own.0 own.1) own.2
      station_missed left within (suc k) v here missed =
          let plugged = left.plugged (suc k) v here (omega arith) in
          let from = plugged.from missed.0 missed.1 in
          step_missed (level_times v).first missed.0 (value_time (level_times v) missed.0) from.0 from.1 from.2 (plugged.no_later missed.0 missed.1) (plugged.in_time missed.0 missed.1) missed.2

    pub station_told : x < node_count q.network → x ≢ l.node → AreLeft q.network x w values → CoverCharges q.network x w values → IsWithin q.network w → (covered : Bool) → TellsEach (section q) t values covered → TellsStep q l x covered
    station_told known moves left covers within true all = station_covered covers all
    station_told known moves left covers within false some = station_missed known moves left within some.0 some.1 some.2 some.3
