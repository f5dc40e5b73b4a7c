-- How far a job came that did not end with its answer.
use Rattle.std.specs.Prelude.{◌≡◌, ◌≢◌, ℕ, ◌⊎◌, List, [], ◌∷◌, ◌++◌, Option}
use Rattle.ev_outside.specs.Counts.{Rose}
use Rattle.ev_outside.specs.Shelf.{Files, HasAsked, ShelfState}
use Rattle.ev_outside.specs.Sink.{Adds, AddsPrefix, SinkState}
use Rattle.job_frame.specs.Task.{AreRead, IsAnswered, Outcome, Read, Task}
use Rattle.job_frame.specs.Writes.{HoldsAll, KeepsAllBut, Leaves, Written}
use Rattle.job_frame.specs.declared.status.Status.{Status}
use Rattle.job_frame.specs.declared.status.Status.TheVariants as status

-- a read of the name failed, and no other name was asked for since
abbrev pub HasFailedRead : ShelfState → ShelfState → List ℕ → Type 0
HasFailedRead before after name =
    Rose (before.failed_reads name) (after.failed_reads name) × HasAsked name after.asked

-- the same of a write
abbrev pub HasFailedWrite : ShelfState → ShelfState → List ℕ → Type 0
HasFailedWrite before after name =
    Rose (before.failed_writes name) (after.failed_writes name) × HasAsked name after.asked

-- a file of the task couldn't be read when its turn came: the files before it break no rule
pub record FailsReading {C : Type 0} (task : Task C) (before after : ShelfState) : Type 0 where
  pub first : List Read
  pub read : Read
  pub rest : List Read
  pub are : task.reads ≡ first ++ read ∷ rest
  pub bytes : List (List ℕ)
  pub are_read : AreRead before.files first bytes
  pub goes_on : task.goes_on bytes
  pub failed : HasFailedRead before after read.name

-- one of these files can't be written, as was asked
pub record FailsAsking (IsAsked : List ℕ → Type 0) (before after : ShelfState) : Type 0 where
  pub name : List ℕ
  pub is_asked : IsAsked name
  pub failed : HasFailedWrite before after name

-- why no answer was sought: a file that is read failed, or one that will be written can't be
abbrev pub FailsToSeek : {C : Type 0} → Task C → ShelfState → ShelfState → Type 0
FailsToSeek {C} task before after =
    FailsReading task before after ⊎ FailsAsking task.asks before after

-- One of these files couldn't be written when its turn came: those before it hold their bytes,
-- and nothing is known of the bytes of this one alone.
pub record FailsWriting (ws : List Written) (before after : ShelfState) : Type 0 where
  pub first : List Written
  pub write : Written
  pub rest : List Written
  pub are : ws ≡ first ++ write ∷ rest
  pub written : HoldsAll first after.files
  pub others : KeepsAllBut (first ++ write ∷ []) before.files after.files
  pub failed : HasFailedWrite before after write.name

-- memory was refused for one of these files when its turn came: those before it were written
pub record StopsWriting (ws : List Written) (old new : Option Files) : Type 0 where
  pub first : List Written
  pub write : Written
  pub rest : List Written
  pub are : ws ≡ first ++ write ∷ rest
  pub written : Leaves first old new

-- all files were written, and there is a text to put
pub record ComesToPut (o : Outcome) (old new : Option Files) : Type 0 where
  pub written : Leaves o.writes old new
  pub some : o.text ≢ []

-- why an answer that was found wasn't put: a file couldn't be written, or the output failed
abbrev pub FailsToAnswer :
    Outcome → ShelfState → ShelfState → SinkState → SinkState → Type 0
FailsToAnswer o before after old new =
    (FailsWriting o.writes before after × (new ≡ old))
    ⊎ (ComesToPut o before.files after.files × Rose old.faults new.faults)

-- the same of want of memory
abbrev pub StopsToAnswer :
    Outcome → Option Files → Option Files → SinkState → SinkState → Type 0
StopsToAnswer o files left old new =
    (StopsWriting o.writes files left × (new ≡ old)) ⊎ ComesToPut o files left

-- nothing was put, or the text of the outcome or a prefix of it, behind all files
abbrev pub PutsPartOf :
    Outcome → Option Files → Option Files → Option (List ℕ) → Option (List ℕ) → Type 0
PutsPartOf o files left old new =
    (new ≡ old) ⊎ (Leaves o.writes files left × AddsPrefix old new o.text)

-- the outcome was written and put, or why it was not
pub record Concludes (o : Outcome) (before after : ShelfState) (old new : SinkState)
    (ended : Status) : Type 0 where
  pub status_is : IsAnswered ended → ended ≡ o.status
  pub written : IsAnswered ended → Leaves o.writes before.files after.files
  pub put : IsAnswered ended → Adds old.written new.written o.text
  pub part : PutsPartOf o before.files after.files old.written new.written
  pub fault : ended ≡ status.Fault → FailsToAnswer o before after old new
  pub memory : ended ≡ status.Memory → StopsToAnswer o before.files after.files old new
