use Rattle.std.proofs.Common.{ℕ, ◌<◌}
use Rattle.closed_lists.specs.Tellings.{IsUncovered}
use Rattle.closed_lists.proofs.question.Question.uncovered_node.Given as goal

abbrev pub invariant-loop-node : goal.invariant-loop-node
invariant-loop-node l = (x : ℕ) → x < l.node → (IsUncovered l.self l.label x → ⊥)
