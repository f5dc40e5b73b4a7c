use Rattle.std.proofs.Common.{ℕ, ◌≤◌, sym, subst}
use Rattle.std.specs.Prelude.{IfOk, IfSome}
use Rattle.dominance.specs.LevelTimes.{IsLevel}
use Rattle.piece_fn.specs.PieceFn.{level_times}
use Rattle.label_steps.specs.Arrivals.{ArrivesAs, IsWithin}
use Rattle.closed_lists.specs.Questions.{Question}
use Rattle.closed_lists.proofs.question.Question.arrival.Goals as goal

pub arrival-requires-clause-levels : goal.arrival-requires-clause-levels
arrival-requires-clause-levels c =
    subst (λ (q : Question). (level : ℕ) → IsLevel (level_times c.args.label.now.value) level → level ≤ q.network.capacity) (sym c.self.view_is) c.requires.label.levels

pub returns-clause-left : goal.returns-clause-left
returns-clause-left c =
    subst (λ (q : Question). IfOk c.arrival.result (ArrivesAs q.network c.args.label.now.value c.args.label.now.node c.args.node c.args.least)) c.self.view_is c.arrival.ensures.left

pub returns-clause-within : goal.returns-clause-within
returns-clause-within c = subst (λ (q : Question). IfOk c.arrival.result (λ o. IfSome o (IsWithin q.network))) c.self.view_is c.arrival.ensures.within
