-- The states of a target, asked of the labels of a section.
use Rattle.std.specs.Prelude.{ℕ}
use Rattle.fleet_model.specs.Coverage.{IsCovered}
use Rattle.closed_lists.specs.Questions.{Question, section}
use Rattle.closed_lists.specs.Targets.{state_at}
use Rattle.closed_lists.specs.declared.coverage.Target.{Target}

pub record Asking : Type 0 where
  pub question : Question
  pub target : Target

-- the state with a level at a time is covered
abbrev pub covers : Asking → ℕ → ℕ → Type 0
covers a level time = IsCovered (section a.question) (state_at a.target level time)
