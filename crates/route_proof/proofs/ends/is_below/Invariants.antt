use Rattle.std.proofs.Common.{◌≡◌, ◌<◌, ◌≤◌, ℕ, List, Some}
use Rattle.std.specs.Prelude.{slice_get}
use Rattle.dominance.specs.LevelTimes.{IsLevel, time_at}
use Rattle.piece_fn.specs.PieceFn.{level_times}
use Rattle.route_proof.proofs.ends.is_below.Given as goal

abbrev pub invariant-loop-value : goal.invariant-loop-value
invariant-loop-value l =
    (k : ℕ) (w : List (ℕ × ℕ)) (level : ℕ) → k < l.value-index → slice_get l.values k ≡ Some w → IsLevel (level_times w) level → l.bar ≤ time_at (level_times w) level
