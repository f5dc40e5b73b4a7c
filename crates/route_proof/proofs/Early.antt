-- No step of a label leads to a place before the least of its times and that of the arc.
use Rattle.std.proofs.Common.{◌≡◌, ℕ, ◌+◌, ◌≤◌, List, Bool, Some, ap, arith, sym}
use Rattle.std.specs.Prelude.{nat_eq, slice_get}
use Rattle.charge_curve.specs.Points.{ArePoints}
use Rattle.dominance.specs.LevelTimes.{IsLevel, time_at}
use Rattle.label_steps.specs.Arrivals.{drive_time}
use Rattle.label_steps.proofs.Stops.{stop_parts}
use Rattle.piece_fn.specs.PieceFn.{level_times}
use Rattle.piece_fn.proofs.Levels.{is_value}
use Rattle.route_steps.specs.Steps.{MayGo}
use Rattle.route_steps.specs.Ways.{leaving_after}
use Rattle.route_steps.specs.declared.state.Place.{Place}
use Rattle.route_proof.specs.Covered.{IsCovered, vehicle_at}
use Rattle.route_proof.specs.declared.proof.RouteLabel.{RouteLabel}
use Rattle.route_proof.proofs.HomeBounds.{covered_by_good}
use Rattle.route_proof.proofs.Rules.{label_at}
use Rattle.route_proof.specs.Asking.{vehicle}
use Rattle.route_proof.specs.Questions.{Question}
use Rattle.route_proof.specs.Tellings.{Misses}
use Rattle.label_index.proofs.EntryLists.{least_time}
use Rattle.route_proof.proofs.LabelSteps.{passed_is}

-- a label at a place with a level by a time covers the vehicle with that level at that time
pub full_label : (labels : List RouteLabel) (n : ℕ) (l : RouteLabel) (p : Place) (level time : ℕ) → slice_get labels n ≡ Some l → l.passed ≡ p.passed → l.node ≡ p.node → IsLevel (level_times l.value) level → time_at (level_times l.value) level ≤ time
    → IsCovered labels (vehicle p level time)
full_label labels n l p level time here passed node is by =
    (l, label_at labels n l here, record { passed = passed; node = node; reaches = (level, is, (omega arith, omega (arith, by))) })

module _ (q : Question) (l : RouteLabel) (p : Place) (valid : ArePoints l.value) (time : ℕ) (early : time ≤ time_at (level_times l.value) (level_times l.value).first + drive_time q.journey.network l.node p.node) where
  no_earlier : (via : Bool) (m : Misses q l p.node via) → time ≤ (leaving_after q.journey.network (vehicle_at l m.level) m.stop).time
  no_earlier via m =
      let g = q.journey.network in
      let least = least_time (level_times l.value) (is_value l.value valid) m.level m.step.level_is in
      let parts = stop_parts g l.node m.level m.stop in
      let drive : drive_time q.journey.network l.node m.stop.node ≡ drive_time q.journey.network l.node p.node = ap (λ n. drive_time q.journey.network l.node n) m.node_is in
      omega (arith, early, least, parts, drive)

  -- at the bar or past it none is missed
  pub past_step : (via : Bool) → q.bar ≤ time → Misses q l p.node via → ⊥
  past_step via past m = let later = no_earlier via m in let below = m.below in omega (arith, later, past, below)

  -- nor where a full battery was had by then
  pub full_step : MayGo q.journey.network q.journey.route l.passed p.passed p.node → IsCovered q.labels (vehicle p q.journey.network.capacity time) → Misses q l p.node (nat_eq l.passed p.passed) → ⊥
  full_step go covered m =
      let g = q.journey.network in
      let later = no_earlier (nat_eq l.passed p.passed) m in
      let within = m.step.may.within in
      m.uncovered (covered_by_good q.labels (vehicle p g.capacity time) (leaving_after g (vehicle_at l m.level) m.stop) covered
      (record { passed = sym (passed_is q l p go m.stop.via m.via_is); node = sym m.node_is; level = omega (arith, within); time = later }))
