-- What the values on leaving a station say of the steps to it from a label.
use Rattle.std.proofs.Common.{◌≡◌, ◌≢◌, ◌∙◌, ℕ, zero, suc, ◌+◌, ◌-◌, ◌<◌, ◌≤◌, Bool, true, false, List, Option, None, Some, length, refl, sym, ap, subst, arith, inl, inr}
use Rattle.std.specs.Prelude.{IsSome, slice_get, slice_index_or}
use Rattle.std.proofs.lemmas.Bool.{cases_eq}
use Rattle.std.proofs.lemmas.Option.{same_Some, slice_get_read}
use Rattle.certificate_parts.specs.Ranges.{customer_count}
use Rattle.dominance.specs.LevelTimes.{IsLevel, time_at as value_time}
use Rattle.ev_model.specs.Network.{curve_at, energy, Network, node_count, scaled_limit}
use Rattle.fleet_model.specs.Steps.{level_at}
use Rattle.piece_fn.specs.PieceFn.{level_times}
use Rattle.label_steps.specs.Arrivals.{ArrivesAs, drive_time, IsWithin}
use Rattle.label_steps.specs.Covering.{IsCoveredAll, IsMissed}
use Rattle.label_steps.specs.Leaves.{AreLeft, charge_time_at, CoverCharges}
use Rattle.label_steps.proofs.Arrivals.{arrives_at}
use Rattle.label_steps.proofs.Stops.{charge_between, passing_time}
use Rattle.label_steps.proofs.Vehicles.{covers_vehicle}
use Rattle.near_tree.specs.Lasts.{last_at}
use Rattle.near_tree.specs.Preorder.{last_of, leaf_label}
use Rattle.near_tree.specs.Rules.{Leaf, MissesStep}
use Rattle.near_tree.specs.Steps.{at_leaf_station, IsLeafStationStep, leaf_at}
use Rattle.near_tree.specs.Judging.{AreStepsCovered, TellsStep}
use Rattle.near_tree.specs.Targets.{Asking, covers, covers_at, IsStateCovered, state_at, TellsEach}
use Rattle.near_tree.specs.declared.coverage.Target.{Target}
use Rattle.near_tree.specs.declared.proof.SectionLabel.{SectionLabel}
use Rattle.near_tree.proofs.LabelSteps.{covered_as, station_alone}

-- a further value is covered
pub covered_more : (a : Asking) (xs : List (List (ℕ × ℕ))) (n : ℕ) (x : List (ℕ × ℕ)) → n < length xs → x ≡ slice_index_or xs n x → ((k : ℕ) (w : List (ℕ × ℕ)) → k < n → slice_get xs k ≡ Some w → IsCoveredAll (covers a) (level_times w)) → IsCoveredAll (covers a) (level_times x)
    → (k : ℕ) (w : List (ℕ × ℕ)) → k < n + 1 → slice_get xs k ≡ Some w → IsCoveredAll (covers a) (level_times w)
covered_more a xs n x less is before here k w high there = elim (cases_eq k n) [
  | inl same ↦
      let own : slice_get xs n ≡ Some x = slice_get_read xs (length xs) n x refl less is in
      let value : x ≡ w = same_Some x w (sym own ∙ subst (λ j. slice_get xs j ≡ Some w) same there) in
      subst (λ v. IsCoveredAll (covers a) (level_times v)) value here
  | inr other ↦ before k w (omega (arith, high, other)) there
]

-- what a station's target has to be
pub record IsStationTarget (g : Network) (l : SectionLabel) (x : ℕ) (t : Target) : Type 0 where
  pub node : t.node ≡ x
  pub last : last_at (customer_count g) t.last ≡ last_of l.last
  pub memory : t.memory ≡ l.memory
  pub earned : t.earned ≡ l.earned

read_at : (values : List (List (ℕ × ℕ))) (k : ℕ) (v : List (ℕ × ℕ)) → k < length values → slice_index_or values k v ≡ v → slice_get values k ≡ Some v
read_at values k v less is = slice_get_read values (length values) k v refl less (sym is)

some_points : (o : Option (List (ℕ × ℕ))) → IsSome o → (points : List (ℕ × ℕ)) × (o ≡ Some points)
some_points None some = absurd (grind (arith, some))
some_points (Some points) some = (points, refl)

module _ (g : Network) (f : Leaf) (l : SectionLabel) (x : ℕ) (t : Target) (is : IsStationTarget g l x t) (station : IsSome (curve_at g x)) where
  -- the time of a step, by that of the arc and that of the charge
  step_time : (y z : ℕ) → level_at g (leaf_at (leaf_label l) y).state x ≤ z →
      (at_leaf_station g (leaf_at (leaf_label l) y) x z).state.time ≡ value_time (level_times l.value) y + drive_time g l.node x + charge_time_at g x (y - energy g l.node x) (z - (y - energy g l.node x))
  step_time y z low =
      let parts = charge_between g x (y - energy g l.node x) z low in
      omega (arith, parts)

  to_step : (y z level time : ℕ) → z ≤ level → time ≤ (at_leaf_station g (leaf_at (leaf_label l) y) x z).state.time → IsStateCovered g f (state_at (customer_count g) t level time) → IsStateCovered g f (at_leaf_station g (leaf_at (leaf_label l) y) x z)
  to_step y z level time high early covered =
      covered_as g f (state_at (customer_count g) t level time) (at_leaf_station g (leaf_at (leaf_label l) y) x z) is.last refl is.node (rw (is.memory) (λ c h. h)) high early is.earned covered

  from_step : (y z level time : ℕ) → level ≤ z → (at_leaf_station g (leaf_at (leaf_label l) y) x z).state.time ≤ time → IsStateCovered g f (at_leaf_station g (leaf_at (leaf_label l) y) x z) → IsStateCovered g f (state_at (customer_count g) t level time)
  from_step y z level time low late covered =
      covered_as g f (at_leaf_station g (leaf_at (leaf_label l) y) x z) (state_at (customer_count g) t level time) (sym is.last) refl (sym is.node) (rw (is.memory) (λ c h. h)) low late (sym is.earned) covered

  module _ (w : List (ℕ × ℕ)) (arrival : ArrivesAs g l.value l.node x g.reserve (Some w)) (values : List (List (ℕ × ℕ))) where
    -- where each value on leaving is covered, so is each step
    pub station_covered : CoverCharges g x w values → ((k : ℕ) (v : List (ℕ × ℕ)) → slice_get values k ≡ Some v → IsCoveredAll (covers_at g f t) (level_times v)) → AreStepsCovered g f (leaf_label l) x
    station_covered charges all = let points = some_points (curve_at g x) station in station_alone g f (leaf_label l) x points.0 points.1 (λ y z level step.
        let v = level_times l.value in
        let a = y - energy g l.node x in
        let drive = drive_time g l.node x in
        let parts = step_time y z step.charges in
        let up : y - energy g l.node x + (z - (y - energy g l.node x)) ≡ z = omega (arith, step.charges) in
        let at = arrives_at g l.value l.node x g.reserve w arrival y level step.step.reaches (omega (arith, parts, step.in_time)) in
        let vehicle = covers_vehicle (level_times w) a (value_time v y + drive) (a, at.0, (omega arith, omega (arith, at.1))) in
        let found = charges a (value_time v y + drive) (z - a) vehicle (λ more. station) (omega (arith, up, step.full)) (omega (arith, parts, step.in_time)) in
        let reach = found.4 in
        let here = all found.0 found.1 (read_at values found.0 found.1 found.2 found.3) in
        to_step y z reach.0 (value_time (level_times found.1) reach.0) (omega (arith, reach.2.0, up)) (omega (arith, reach.2.1, parts)) (here reach.0 reach.1))

    module _ (known : x < node_count g) (moves : x ≢ l.node) where
      -- a charge, or none, that leads to a state that is not covered
      step_missed : (a z time : ℕ) → IsLevel (level_times w) a → a ≤ z → z ≤ g.capacity → value_time (level_times w) a + charge_time_at g x a (z - a) ≤ time → time ≤ scaled_limit g
          → (IsStateCovered g f (state_at (customer_count g) t z time) → ⊥) → MissesStep g f (leaf_label l) x
      step_missed a z time level low full no_later in_time missed =
          let e = energy g l.node x in
          let at = (arrival.left a).0 level in
          let gone : a + energy g l.node x - energy g l.node x ≡ a = omega arith in
          let from : a + energy g l.node x - energy g l.node x ≤ z = omega (arith, low) in
          let parts = step_time (a + energy g l.node x) z from in
          let charge : charge_time_at g x (a + energy g l.node x - energy g l.node x) (z - (a + energy g l.node x - energy g l.node x)) ≡ charge_time_at g x a (z - a) = ap (λ k. charge_time_at g x k (z - k)) gone in
          let value = arrival.later a level in
          let step : IsLeafStationStep g (leaf_at (leaf_label l) (a + energy g l.node x)) x z = record {
            step = record { known = known; moves = moves; reaches = omega (arith, at.1) };
            station = station;
            charges = from;
            full = full;
            in_time = omega (arith, parts, charge, value, no_later, in_time);
          } in
          (a + e, at.0, inr (z, step, λ covered. missed (from_step (a + energy g l.node x) z z time (omega arith) (omega (arith, parts, charge, value, no_later)) covered)))

      -- so is a step where some value on leaving is not covered
      pub station_missed : AreLeft g x w values → IsWithin g w → (k : ℕ) (v : List (ℕ × ℕ)) → slice_get values k ≡ Some v → IsMissed (covers_at g f t) (level_times v) → MissesStep g f (leaf_label l) x
      station_missed left within zero v here missed =
          let same : v ≡ w = left.passing v here in
          let own : IsMissed (covers_at g f t) (level_times w) = subst (λ u. IsMissed (covers_at g f t) (level_times u)) same missed in
          let nothing : own.0 - own.0 ≡ 0 = omega arith in
          let none : charge_time_at g x own.0 (own.0 - own.0) ≡ 0 = ap (λ k. charge_time_at g x own.0 k) nothing ∙ passing_time g x own.0 in
          step_missed own.0 own.0 (value_time (level_times w) own.0) own.1 (omega arith) (within.levels own.0 own.1) (omega (arith, none)) (within.times own.0 own.1) own.2
      station_missed left within (suc k) v here missed =
          let plugged = left.plugged (suc k) v here (omega arith) in
          let from = plugged.from missed.0 missed.1 in
          step_missed (level_times v).first missed.0 (value_time (level_times v) missed.0) from.0 from.1 from.2 (plugged.no_later missed.0 missed.1) (plugged.in_time missed.0 missed.1) missed.2

    pub station_told : x < node_count g → x ≢ l.node → AreLeft g x w values → CoverCharges g x w values → IsWithin g w → (covered : Bool) → TellsEach (covers_at g f t) values covered → TellsStep g f (leaf_label l) x covered
    station_told known moves left charges within true all = station_covered charges all
    station_told known moves left charges within false some = station_missed known moves left within some.0 some.1 some.2 some.3
