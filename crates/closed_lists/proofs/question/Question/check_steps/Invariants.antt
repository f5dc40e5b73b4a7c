use Rattle.std.proofs.Common.{ℕ, ◌<◌}
use Rattle.fleet_model.specs.ClosedListRules.{at_step, IsFault}
use Rattle.closed_lists.specs.Questions.{section}
use Rattle.closed_lists.proofs.question.Question.check_steps.Given as goal

abbrev pub invariant-loop-number : goal.invariant-loop-number
invariant-loop-number l = (n x : ℕ) → n < l.number → (IsFault l.self.network (section l.self) (at_step n x) → ⊥)
