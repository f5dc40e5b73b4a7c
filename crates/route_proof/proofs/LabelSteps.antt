-- The values that a step of a label leads to tell whether a step is missed.
use Rattle.std.proofs.Common.{◌≡◌, ◌∙◌, ℕ, ◌+◌, ◌-◌, ◌<◌, List, Some, None, Bool, true, false, length, get_or, refl, sym, ap, subst, arith, inl, inr}
use Rattle.std.specs.Prelude.{nat_eq, slice_get, if◌then◌else◌}
use Rattle.std.proofs.lemmas.Bool.{cases_Bool, cases_eq, cases_lt, eq-eqb, eqb-true}
use Rattle.std.proofs.lemmas.Option.{same_Some, slice_get_read}
use Rattle.dominance.specs.LevelTimes.{time_at}
use Rattle.ev_model.specs.Network.{node_count}
use Rattle.label_steps.specs.Covering.{IsCoveredAll, IsMissed}
use Rattle.piece_fn.specs.PieceFn.{level_times}
use Rattle.route_steps.specs.Steps.{AreSteps, CoverStops, Holds, MayGo, StandsAt, level_before, stop_at, state_at}
use Rattle.route_steps.specs.Ways.{leaving_after, passed_after}
use Rattle.route_steps.specs.declared.state.Place.{Place}
use Rattle.route_proof.specs.Broken.{IsSooner}
use Rattle.route_proof.specs.Covered.{vehicle_at}
use Rattle.route_proof.specs.declared.proof.RouteLabel.{RouteLabel}
use Rattle.route_proof.proofs.HomeBounds.{covered_by_good}
use Rattle.route_proof.specs.Asking.{covers, vehicle}
use Rattle.route_proof.specs.Questions.{Question}
use Rattle.route_proof.specs.Tellings.{Misses, TellsEach, TellsFirst, TellsNext, TellsStation, TellsStep, state_of}

pub not_next : (n : ℕ) → nat_eq n (n + 1) ≡ false
not_next n = elim (cases_Bool (nat_eq n (n + 1))) [
  | inl same ↦ (let is = eqb-true n (n + 1) same in absurd (omega (arith, is)))
  | inr off ↦ off
]

-- one more value is covered
pub covered_more : (q : Question) (p : Place) (xs : List (List (ℕ × ℕ))) (n : ℕ) (x : List (ℕ × ℕ)) → n < length xs → x ≡ get_or xs n x → ((k : ℕ) (w : List (ℕ × ℕ)) → k < n → slice_get xs k ≡ Some w → IsCoveredAll (covers q p) (level_times w)) → IsCoveredAll (covers q p) (level_times x)
    → (k : ℕ) (w : List (ℕ × ℕ)) → k < n + 1 → slice_get xs k ≡ Some w → IsCoveredAll (covers q p) (level_times w)
covered_more q p xs n x less is before here k w high there = elim (cases_eq k n) [
  | inl same ↦
      let own : slice_get xs n ≡ Some x = slice_get_read xs (length xs) n x refl less is in
      let value : x ≡ w = same_Some x w (sym own ∙ subst (λ j. slice_get xs j ≡ Some w) same there) in
      subst (λ v. IsCoveredAll (covers q p) (level_times v)) value here
  | inr other ↦ before k w (omega (arith, high, other)) there
]

-- the state of a label stands where the label is
pub stands : (l : RouteLabel) → StandsAt (record { passed = l.passed; node = l.node }) l.value (state_of l)
stands l = record { passed = refl; node = refl; value = refl }

module _ (q : Question) (l : RouteLabel) (p : Place) (go : MayGo q.journey.network q.journey.route l.passed p.passed p.node) where
  -- how much was passed after a stop that was inserted where nothing more is passed
  pub passed_is : (via : Bool) → via ≡ nat_eq l.passed p.passed → (if via then l.passed else l.passed + 1) ≡ p.passed
  passed_is via is = elim go.leads [
    | inl stays ↦ (let true_is : via ≡ true = is ∙ eq-eqb l.passed p.passed (sym stays.0) in rw true_is (sym stays.0))
    | inr more ↦ (let false_is : via ≡ false = is ∙ ap (λ n. nat_eq l.passed n) more.0 ∙ not_next l.passed in rw false_is (sym more.0))
  ]

  -- where the values are covered, no step is missed
  pub covered_step : (values : List (List (ℕ × ℕ))) → CoverStops q.journey.network q.journey.route (state_of l) p.passed p.node values → ((k : ℕ) (w : List (ℕ × ℕ)) → slice_get values k ≡ Some w → IsCoveredAll (covers q p) (level_times w))
      → Misses q l p.node (nat_eq l.passed p.passed) → ⊥
  covered_step values stops each m =
      let g = q.journey.network in
      let v = vehicle_at l m.level in
      let holds : Holds (state_of l) v = record { passed = refl; node = refl; reaches = (m.level, m.step.level_is, (omega arith, omega arith)) } in
      let passed : passed_after l.passed m.stop ≡ p.passed = passed_is m.stop.via m.via_is in
      let some = stops v m.stop holds m.step.may m.node_is passed in
      let here = slice_get_read values (length values) some.0 some.1 refl some.2 (sym some.3) in
      let high = some.4.0 in
      let below = m.below in
      let covered = each some.0 some.1 here high some.4.1 (omega (arith, below, some.4.2.1)) in
      m.uncovered (covered_by_good q.labels (vehicle p high (time_at (level_times some.1) high)) (leaving_after g v m.stop) covered
      (record { passed = sym passed; node = sym m.node_is; level = some.4.2.0; time = omega (arith, some.4.2.1) }))

  -- and where one is not, one is
  pub missed_step : (values : List (List (ℕ × ℕ))) → p.passed < length q.journey.route - 1 → AreSteps q.journey.network q.journey.route (state_of l) p.passed p.node values → (k : ℕ) (w : List (ℕ × ℕ)) → slice_get values k ≡ Some w
      → IsMissed (covers q p) (level_times w) → Misses q l p.node (nat_eq l.passed p.passed)
  missed_step values before steps k w here missed =
      let g = q.journey.network in
      let s = state_at p.passed p.node k w in
      let sound = (steps k w here).step in
      let y = missed.0 in
      let is = missed.1 in
      let low = level_before g (state_of l) s y in
      let stop = stop_at (state_of l) s y in
      let after = leaving_after g (vehicle_at l low) stop in
      let later = sound.no_later y is in
      let leaves = sound.leaves y is in
      elim (cases_lt (time_at (level_times w) y) q.bar) [
        | inl below ↦ record {
          level = low;
          stop = stop;
          step = record { level_is = sound.comes y is; may = sound.may y is };
          node_is = refl;
          via_is = refl;
          on_way = subst (λ n. n < length q.journey.route - 1) (sym (sound.passed y)) before;
          below = omega (arith, below, later);
          uncovered = λ c. missed.2 (λ b. covered_by_good q.labels after (vehicle p y (time_at (level_times w) y)) c
              (record { passed = sound.passed y; node = refl; level = omega (arith, leaves); time = omega (arith, later) }));
        }
        | inr past ↦ absurd (missed.2 (λ b. absurd (omega (arith, b, past))))
      ]

  pub told_step : (values : List (List (ℕ × ℕ))) (covered : Bool) → p.passed < length q.journey.route - 1 → AreSteps q.journey.network q.journey.route (state_of l) p.passed p.node values
      → CoverStops q.journey.network q.journey.route (state_of l) p.passed p.node values → TellsEach q p values covered → TellsStep q l p covered
  told_step values true before steps stops tells = covered_step values stops tells
  told_step values false before steps stops tells = missed_step values before steps tells.0 tells.1 tells.2 tells.3

module _ (q : Question) (l : RouteLabel) where
  -- an inserted station is a node
  pub is_known : (x : ℕ) → Misses q l x true → x < node_count q.journey.network
  is_known x m = subst (λ n. n < node_count q.journey.network) m.node_is m.step.may.stop.known

  pub none_first : TellsNext q l None → TellsStation q l None → TellsFirst q l None
  none_first next station x true = station x
  none_first next station x false = next x

  pub station_first : (node : ℕ) → TellsNext q l None → TellsStation q l (Some node) → TellsFirst q l (Some (record { node = node; via = true }))
  station_first node next station = (station.0, each)
    where
      each : (x : ℕ) (via : Bool) → IsSooner x via node true → Misses q l x via → ⊥
      each x true sooner = station.1 x sooner
      each x false sooner = next x
