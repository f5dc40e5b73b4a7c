-- The start as the one state of a value.
use Rattle.std.proofs.Common.{◌≡◌, ℕ, List, [], ◌∷◌, sym, subst, arith, pos}
use Rattle.dominance.specs.LevelTimes.{IsLevel, time_at}
use Rattle.fleet_model.specs.Coverage.{IsCovered}
use Rattle.fleet_model.specs.Steps.{start}
use Rattle.fleet_model.proofs.Steps.{covered_by_good}
use Rattle.piece_fn.specs.PieceFn.{level_times}
use Rattle.piece_fn.proofs.Levels.{is_level, level_is, time_at-level_times}
use Rattle.closed_lists.specs.Questions.{Question, section}
use Rattle.closed_lists.specs.Targets.{IsCoveredAll, IsMissed, state_of}
use Rattle.closed_lists.specs.declared.coverage.Target.{Target}
use Rattle.closed_lists.proofs.LabelSteps.{later}

pub point_level : (full y : ℕ) → IsLevel (level_times ((full, 0) ∷ [])) y → y ≡ full
point_level full y level = let inside = level_is ((full, 0) ∷ []) y tt level in omega (arith, inside)

pub point_time : (full y : ℕ) → IsLevel (level_times ((full, 0) ∷ [])) y → time_at (level_times ((full, 0) ∷ [])) y ≡ 0
point_time full y level = time_at-level_times ((full, 0) ∷ []) y tt level

-- the target of the start
pub record IsStartTarget (t : Target) : Type 0 where
  pub last : t.last ≡ 0
  pub node : t.node ≡ 0
  pub set : t.set ≡ []
  pub paid : t.paid ≡ pos 0

module _ (q : Question) (t : Target) (full : ℕ) (value : List (ℕ × ℕ)) (is : IsStartTarget t) (same : full ≡ q.network.capacity) (point : value ≡ (full, 0) ∷ []) where
  pub start_covered : IsCoveredAll (section q) t value → IsCovered (section q) (start q.network)
  start_covered all =
      let here : IsCoveredAll (section q) t ((full, 0) ∷ []) = subst (IsCoveredAll (section q) t) point all in
      let level = is_level ((full, 0) ∷ []) full tt (omega arith) (omega arith) in
      covered_by_good (section q) (state_of t ((full, 0) ∷ []) full) (start q.network) (here full level)
      (later (section q) (state_of t ((full, 0) ∷ []) full) (start q.network) is.last is.node (rw (is.set) (λ c h. h)) (omega (arith, same)) (omega (arith, point_time full full level)) is.paid)

  pub start_missed : IsMissed (section q) t value → IsCovered (section q) (start q.network) → ⊥
  start_missed missed covered =
      let here : IsMissed (section q) t ((full, 0) ∷ []) = subst (IsMissed (section q) t) point missed in
      let y = here.0 in
      let at = point_level full y here.1 in
      here.2 (covered_by_good (section q) (start q.network) (state_of t ((full, 0) ∷ []) y) covered
      (later (section q) (start q.network) (state_of t ((full, 0) ∷ []) y) (sym is.last) (sym is.node) (λ c h. absurd (grind (arith, h))) (omega (arith, same, at)) (omega arith) (sym is.paid)))
