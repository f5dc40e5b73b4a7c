-- What the function of a command owes for its task, before anything is written.
use Rattle.std.specs.Prelude.{◌≡◌, IfOk, IsErrOf, Result, map, string_bytes}
use Rattle.ev_outside.specs.Shelf.{CountsNeverFall, CountsStay, ShelfState}
use Rattle.ev_outside.specs.declared.shelf.ShelfFault.{ShelfFault}
use Rattle.ev_outside.specs.declared.shelf.ShelfFault.TheVariants.{Failed}
use Rattle.job_frame.specs.Faults.{FailsToSeek}
use Rattle.job_frame.specs.Task.{Answers, IsAnswered, Outcome, Task}
use Rattle.job_frame.specs.Writes.{AreDifferent, Written}
use Rattle.job_frame.specs.declared.found.Found.{Found}
use Rattle.job_frame.specs.declared.found.NewFile.{NewFile}

abbrev pub written_by : NewFile → Written
written_by file = record { name = string_bytes file.name; bytes = file.bytes.items }

-- the outcome that a value of the program stands for
abbrev pub outcome_of : {C : Type 0} → Found C → Outcome
outcome_of {C} found = record {
  status = found.answer.status;
  writes = map written_by found.files.items;
  text = found.answer.text.items;
}

-- what is heard of it is what the task tells of such an answer
abbrev pub Hears : {C : Type 0} → Task C → Found C → Type 0
Hears {C} task found =
    task.heard found.answer.status found.answer.text.items found.answer.cause

-- the answer to the task's files, which were read in order; or why there is none: one of them
-- failed, one that it will write can't be written, or memory was refused
pub record Finds {C : Type 0}
    (task : Task C) (before after : ShelfState) (found : Result (Found C) ShelfFault) : Type 0 where
  pub answered : IfOk found (λ f. IsAnswered f.answer.status)
  pub answers : IfOk found (λ f. Answers task before.files (outcome_of f))
  pub heard : IfOk found (Hears task)
  pub different : IfOk found (λ f. AreDifferent (outcome_of f).writes)
  pub fault : IsErrOf found Failed → FailsToSeek task before after
  pub stays : (IsErrOf found Failed → ⊥) → CountsStay before after
  pub falls : CountsNeverFall before after
  pub files : after.files ≡ before.files
