use Rattle.std.proofs.Common.{◌≡◌, ℕ, List, Some, ◌<◌}
use Rattle.std.specs.Prelude.{slice_get}
use Rattle.closed_lists.specs.Questions.{section}
use Rattle.closed_lists.specs.Targets.{IsCoveredAll}
use Rattle.closed_lists.proofs.steps.covers_each.Given as goal

abbrev pub invariant-loop-value : goal.invariant-loop-value
invariant-loop-value l = (k : ℕ) (w : List (ℕ × ℕ)) → k < l.value-index → slice_get l.values k ≡ Some w → IsCoveredAll (section l.asked.question) l.asked.target w
