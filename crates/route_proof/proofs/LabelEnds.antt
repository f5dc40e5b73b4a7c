-- The values that arrive at the end of the route tell whether a step home ends below the bar.
use Rattle.std.proofs.Common.{◌≡◌, ◌∙◌, ℕ, ◌+◌, ◌-◌, ◌<◌, ◌≤◌, List, Some, Bool, true, false, length, refl, sym, arith, inl, inr}
use Rattle.std.specs.Prelude.{slice_get, slice_index}
use Rattle.std.proofs.lemmas.Bool.{cases_Bool}
use Rattle.std.proofs.lemmas.Option.{slice_get_read}
use Rattle.dominance.specs.LevelTimes.{IsLevel, time_at}
use Rattle.piece_fn.specs.PieceFn.{level_times}
use Rattle.route_steps.specs.Steps.{AreSteps, CoverStops, Holds, level_before, stop_at, state_at}
use Rattle.route_steps.specs.Ways.{passed_after}
use Rattle.route_steps.specs.declared.state.Place.{Place}
use Rattle.route_proof.specs.Broken.{EndsBelow}
use Rattle.route_proof.specs.Covered.{vehicle_at}
use Rattle.route_proof.specs.declared.proof.RouteLabel.{RouteLabel}
use Rattle.route_proof.specs.Ends.{TellsBelow}
use Rattle.route_proof.specs.Questions.{Question}
use Rattle.route_proof.specs.Tellings.{TellsHome, state_of}

module _ (q : Question) (l : RouteLabel) where
  -- a step home leads to the next node of the route
  home_node : (e : EndsBelow q.journey q.bar l) → slice_index q.journey.route (l.passed + 1) ≡ e.stop.node
  home_node e =
      let way = e.step.may.on_way in
      let home = e.home in
      elim (cases_Bool e.stop.via) [
        | inl via ↦ (let stays : passed_after l.passed e.stop ≡ l.passed = rw via refl in absurd (omega (arith, way, home, stays)))
        | inr own ↦ e.step.may.next own
      ]

  module _ (p : Place) (passed : p.passed ≡ l.passed + 1) (node : p.node ≡ slice_index q.journey.route (l.passed + 1)) (end : p.passed ≡ length q.journey.route - 1) (values : List (List (ℕ × ℕ))) where
    none_below : CoverStops q.journey.network q.journey.route (state_of l) p.passed p.node values → ((k : ℕ) (w : List (ℕ × ℕ)) (level : ℕ) → slice_get values k ≡ Some w → IsLevel (level_times w) level → q.bar ≤ time_at (level_times w) level)
        → EndsBelow q.journey q.bar l → ⊥
    none_below stops late e =
        let v = vehicle_at l e.level in
        let holds : Holds (state_of l) v = record { passed = refl; node = refl; reaches = (e.level, e.step.level_is, (omega arith, omega arith)) } in
        let some = stops v e.stop holds e.step.may (sym (home_node e) ∙ sym node) (e.home ∙ sym end) in
        let here = slice_get_read values (length values) some.0 some.1 refl some.2 (sym some.3) in
        let past = late some.0 some.1 some.4.0 here some.4.1 in
        let below = e.below in
        omega (arith, past, below, some.4.2.1)

    some_below : AreSteps q.journey.network q.journey.route (state_of l) p.passed p.node values → (k : ℕ) (w : List (ℕ × ℕ)) → slice_get values k ≡ Some w → (y : ℕ) → IsLevel (level_times w) y → time_at (level_times w) y < q.bar → EndsBelow q.journey q.bar l
    some_below steps k w here y is below =
        let s = state_at p.passed p.node k w in
        let sound = (steps k w here).step in
        let later = sound.no_later y is in
        record {
          level = level_before q.journey.network (state_of l) s y;
          stop = stop_at (state_of l) s y;
          step = record { level_is = sound.comes y is; may = sound.may y is };
          home = sound.passed y ∙ end;
          below = omega (arith, below, later);
        }

    pub told_home : (below : Bool) → AreSteps q.journey.network q.journey.route (state_of l) p.passed p.node values → CoverStops q.journey.network q.journey.route (state_of l) p.passed p.node values → TellsBelow values q.bar below → TellsHome q l below
    told_home true steps stops tells = some_below steps tells.0 tells.1 tells.2 tells.3.0 tells.3.1 tells.3.2
    told_home false steps stops tells = none_below stops tells
