use Rattle.std.proofs.Common.{ℕ, ◌<◌}
use Rattle.fleet_model.specs.ClosedListRules.{at_home, IsFault}
use Rattle.closed_lists.specs.Questions.{section}
use Rattle.closed_lists.proofs.question.Question.check_ends.Given as goal

abbrev pub invariant-loop-number : goal.invariant-loop-number
invariant-loop-number l = (n : ℕ) → n < l.number → (IsFault l.self.network (section l.self) (at_home n) → ⊥)
