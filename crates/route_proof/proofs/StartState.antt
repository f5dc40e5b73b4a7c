-- The start as the one vehicle of a value.
use Rattle.std.proofs.Common.{◌≡◌, ℕ, List, [], ◌∷◌, Bool, true, false, refl, subst, arith, inl, inr}
use Rattle.std.proofs.lemmas.Bool.{cases_lt}
use Rattle.dominance.specs.LevelTimes.{IsLevel, time_at}
use Rattle.label_steps.specs.Covering.{IsCoveredAll, IsMissed}
use Rattle.piece_fn.specs.PieceFn.{level_times}
use Rattle.piece_fn.proofs.Levels.{is_level, level_is, time_at-level_times}
use Rattle.route_steps.specs.Ways.{begin}
use Rattle.route_steps.specs.declared.state.Place.{Place}
use Rattle.route_proof.specs.Broken.{at_start}
use Rattle.route_proof.proofs.HomeBounds.{covered_by_good}
use Rattle.route_proof.specs.Asking.{covers, vehicle}
use Rattle.route_proof.specs.Faults.{Breaks, TellsStart}
use Rattle.route_proof.specs.Questions.{Question}

point_level : (start y : ℕ) → IsLevel (level_times ((start, 0) ∷ [])) y → y ≡ start
point_level start y level = let inside = level_is ((start, 0) ∷ []) y tt level in omega (arith, inside)

point_time : (start y : ℕ) → IsLevel (level_times ((start, 0) ∷ [])) y → time_at (level_times ((start, 0) ∷ [])) y ≡ 0
point_time start y level = time_at-level_times ((start, 0) ∷ []) y tt level

-- the depot at the beginning
abbrev pub depot : Place
depot = record { passed = 0; node = 0 }

module _ (q : Question) (value : List (ℕ × ℕ)) (point : value ≡ (q.journey.start, 0) ∷ []) where
  pub start_covered : IsCoveredAll (covers q depot) (level_times value) → Breaks q at_start → ⊥
  start_covered all broken =
      let start = q.journey.start in
      let here : IsCoveredAll (covers q depot) (level_times ((start, 0) ∷ [])) = subst (λ v. IsCoveredAll (covers q depot) (level_times v)) point all in
      let level = is_level ((start, 0) ∷ []) start tt (omega arith) (omega arith) in
      let none = point_time start start level in
      let some = broken.0 in
      broken.1 (covered_by_good q.labels (vehicle depot start (time_at (level_times ((start, 0) ∷ [])) start)) (begin start) (here start level (omega (arith, none, some)))
      (record { passed = refl; node = refl; level = omega arith; time = omega (arith, none) }))

  pub start_missed : IsMissed (covers q depot) (level_times value) → Breaks q at_start
  start_missed missed =
      let start = q.journey.start in
      let here : IsMissed (covers q depot) (level_times ((start, 0) ∷ [])) = subst (λ v. IsMissed (covers q depot) (level_times v)) point missed in
      let y = here.0 in
      let at = point_level start y here.1 in
      let none = point_time start y here.1 in
      elim (cases_lt 0 q.bar) [
        | inl some ↦ (
          some,
          λ c. here.2 (λ below. covered_by_good q.labels (begin start) (vehicle depot y (time_at (level_times ((start, 0) ∷ [])) y)) c
              (record { passed = refl; node = refl; level = omega (arith, at); time = omega arith })),
        )
        | inr off ↦ absurd (here.2 (λ below. absurd (omega (arith, below, off))))
      ]

  pub start_tells : (covered : Bool) → (covered ≡ true → IsCoveredAll (covers q depot) (level_times value)) → (covered ≡ false → IsMissed (covers q depot) (level_times value)) → TellsStart q covered
  start_tells true all missed = start_covered (all refl)
  start_tells false all missed = start_missed (missed refl)
