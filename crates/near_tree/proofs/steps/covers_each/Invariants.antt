use Rattle.std.proofs.Common.{◌≡◌, ℕ, List, Some, ◌<◌}
use Rattle.std.specs.Prelude.{slice_get}
use Rattle.label_steps.specs.Covering.{IsCoveredAll}
use Rattle.piece_fn.specs.PieceFn.{level_times}
use Rattle.near_tree.specs.Targets.{covers}
use Rattle.near_tree.proofs.steps.covers_each.Given as goal

abbrev pub invariant-loop-value : goal.invariant-loop-value
invariant-loop-value l = (k : ℕ) (w : List (ℕ × ℕ)) → k < l.value-index → slice_get l.values k ≡ Some w → IsCoveredAll (covers l.asked) (level_times w)
