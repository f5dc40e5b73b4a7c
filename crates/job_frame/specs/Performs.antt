-- What the program owes for a task.
use Rattle.std.specs.Prelude.{◌≡◌, ◌≢◌, ℕ, ◌⊎◌, Bool, false, IfSome, List, Option, Some}
use Rattle.ev_outside.specs.Shelf.{CountsStay, Files, ShelfState}
use Rattle.ev_outside.specs.Sink.{Adds, SinkState}
use Rattle.job_frame.specs.Faults.{FailsToAnswer, FailsToSeek, FailsWriting, PutsPartOf, StopsToAnswer}
use Rattle.job_frame.specs.Task.{Answers, IsAnswered, Outcome, Task, Tells}
use Rattle.job_frame.specs.Writes.{Leaves, StandIn, Written}
use Rattle.job_frame.specs.declared.status.Status.{Status}
use Rattle.job_frame.specs.declared.status.Status.TheVariants as status

-- an answer with this status was written and put
pub record PutsAnswer {C : Type 0} (task : Task C)
    (files left : Option Files) (old new : Option (List ℕ)) (ended : Status) : Type 0 where
  pub outcome : Outcome
  pub answers : Answers task files outcome
  pub status_is : ended ≡ outcome.status
  pub written : Leaves outcome.writes files left
  pub put : Adds old new outcome.text

-- and this was heard last: the cause that its task tells of it, where it has one
pub record PutsHeard {C : Type 0} (task : Task C) (files left : Option Files)
    (old new : Option (List ℕ)) (ended : Status) (heard : Option C) : Type 0 where
  pub puts : PutsAnswer task files left old new ended
  pub cause : Option C
  pub is : task.heard ended puts.outcome.text cause
  pub was_heard : IfSome cause (λ c. heard ≡ Some c)

-- nothing was put, or an answer, or a prefix of one
abbrev pub PutsPart : {C : Type 0} → Task C → Option Files → Option Files → Option (List ℕ) → Option (List ℕ) → Type 0
PutsPart {C} task files left old new =
    (new ≡ old) ⊎ ((o : Outcome) × Answers task files o × PutsPartOf o files left old new)

-- a file or the output failed when its turn came: a file that is read, or asked whether it can be
-- written; one of an answer, or the output behind them; or one of those that are written before an
-- answer is sought
abbrev pub HasFaultCause : {C : Type 0} → Task C → ShelfState → ShelfState → SinkState → SinkState → Type 0
HasFaultCause {C} task before after old new =
    (FailsToSeek task before after × (after.files ≡ before.files) × (new ≡ old))
    ⊎ ((o : Outcome) × Answers task before.files o × FailsToAnswer o before after old new)
    ⊎ ((ws : List Written) × task.writes_first ws × FailsWriting ws before after × (new ≡ old))

-- memory was refused before anything was written, or while an answer was written or put, or while
-- it was sought behind the files that are written before
abbrev pub IsCutOff : {C : Type 0} → Task C → Option Files → Option Files → SinkState → SinkState → Type 0
IsCutOff {C} task files left old new =
    ((left ≡ files) × (new ≡ old))
    ⊎ ((o : Outcome) × Answers task files o × StopsToAnswer o files left old new)
    ⊎ ((ws : List Written) × task.writes_first ws × Leaves ws files left × (new ≡ old))

-- the job ends with this status, unless a file or the output failed or memory was refused
abbrev pub EndsUnlessHindered : Status → Status → Type 0
EndsUnlessHindered wanted ended =
    (ended ≡ wanted) ⊎ (ended ≡ status.Fault) ⊎ (ended ≡ status.Memory)

-- what is read breaks no rule
pub record BreakNoRule {C : Type 0} (task : Task C) (files : Option Files) : Type 0 where
  pub told : Tells task.reads files
  pub unbroken : (o : Outcome) → Answers task files o → o.status ≢ status.Refused

-- from the shelf before to the shelf after, from the old output to the new one
pub record Performs {C : Type 0} (task : Task C)
    (before after : ShelfState) (old new : SinkState) (ended : Status) : Type 0 where
  -- where the job ends with an answer, it is one to its files, and was written and put whole
  pub answer : IsAnswered ended →
      PutsAnswer task before.files after.files old.written new.written ended
  -- however it ends, nothing else is put than an answer, or a prefix of one
  pub part : PutsPart task before.files after.files old.written new.written
  -- a status comes exactly where its cause holds
  pub exact : Tells task.reads before.files → (o : Outcome) → Answers task before.files o
      → (task.is_open → StandIn o.writes after.files) → EndsUnlessHindered o.status ended
  -- a fault comes only where a file or the output failed in its turn; that says what files hold
  pub fault : ended ≡ status.Fault → HasFaultCause task before after old new
  -- and so does want of memory
  pub memory : ended ≡ status.Memory → IsCutOff task before.files after.files old new
  -- where no rule is broken and nothing failed, the job is done, or its answer is negative, or
  -- memory was refused, or the budget that it has ended it
  pub complete : BreakNoRule task before.files → (HasFaultCause task before after old new → ⊥)
      → (ended ≡ status.Done) ⊎ (ended ≡ status.Negative) ⊎ (ended ≡ status.Memory)
      ⊎ ((ended ≡ status.Stopped) × task.has_budget)

-- Want of memory leaves every file as it was, where neither writing files nor putting takes any: it
-- comes before the first write, but for files that are written before an answer is sought.
pub record SparesFiles {C : Type 0} (task : Task C) (writes_take_memory puts_take_memory : Bool)
    (files left : Option Files) (ended : Status) : Type 0 where
  pub memory : writes_take_memory ≡ false → puts_take_memory ≡ false → ended ≡ status.Memory
      → (left ≡ files) ⊎ ((ws : List Written) × task.writes_first ws × Leaves ws files left)

-- no count of failed calls is what it was not before
pub record NothingFailed (before after : ShelfState) (old new : SinkState) : Type 0 where
  pub shelf : CountsStay before after
  pub sink : new.faults ≡ old.faults
