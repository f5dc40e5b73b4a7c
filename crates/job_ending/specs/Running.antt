-- What a program owes for its words, however it ends, whichever jobs they may name.
use Rattle.std.specs.Prelude.{◌≡◌, ◌≢◌, ◌⊎◌, ℕ, List, [], Bool, false, IfSome, IsNone, Option, Some, String}
use Rattle.std.specs.declared.alloc.Global.{Global}
use Rattle.ev_outside.specs.Counts.{Rose}
use Rattle.ev_outside.specs.Shelf.{CountsNeverFall, ShelfState}
use Rattle.ev_outside.specs.Sink.{Adds, AddsPrefix, SinkState}
use Rattle.job_frame.specs.Performs.{EndsUnlessHindered, NothingFailed, Performs, PutsHeard, SparesFiles}
use Rattle.job_frame.specs.Task.{IsAnswered, Task}
use Rattle.job_frame.specs.declared.status.Status.{Status}
use Rattle.job_frame.specs.declared.status.Status.TheVariants as status

-- what is owed where the words name no job: this text tells how the program is called
pub record TellsUsageOf (usage : List ℕ)
    (before after : ShelfState) (old new : SinkState) (ended : Status) : Type 0 where
  -- the status tells that, unless the output failed or memory was refused
  pub ends : EndsUnlessHindered status.Words ended
  -- then the usage text was put
  pub whole : ended ≡ status.Words → Adds old.written new.written usage
  -- however it ends, nothing else is put than this text, or a prefix of it
  pub part : AddsPrefix old.written new.written usage
  -- a fault comes only where the output failed
  pub fault : ended ≡ status.Fault → Rose old.faults new.faults
  -- no file is read or written
  pub shelf : after ≡ before

-- what is owed for words that name this job, or none, where each job is a task: from the shelf
-- before to the shelf after, writing on which takes memory or none, from the old output to the new
-- one, putting on which takes memory or none, where this cause was heard last, and this one tells
-- that words name no job
pub record RunsFor {C Job : Type 0} (usage_text : List ℕ) (no_job : C) (task_of : Job → Task C)
    (words : List (String Global)) (named : Option Job) (writes_take_memory takes_memory : Bool)
    (before after : ShelfState) (old new : SinkState) (heard : Option C) (ended : Status)
    : Type 0 where
  -- the status that tells of words comes only where they name no job
  pub only : ended ≡ status.Words → IsNone named
  -- such words put the usage text
  pub usage : IsNone named → TellsUsageOf usage_text before after old new ended
  -- and the job that they name is performed
  pub job : IfSome named (λ job. Performs (task_of job) before after old new ended)
  -- where it ends with an answer, its cause was heard last, where it has one
  pub hears : IfSome named (λ job. IsAnswered ended
      → PutsHeard (task_of job) before.files after.files old.written new.written ended heard)
  -- and that the words name no job, where they name none
  pub hears_words : ended ≡ status.Words → heard ≡ Some no_job
  -- where no file and no output failed, no count of failed calls has changed
  pub stays : ended ≢ status.Fault → NothingFailed before after old new
  pub falls : CountsNeverFall before after
  -- on an output that takes no memory nothing was put where memory was refused
  pub memory : takes_memory ≡ false → ended ≡ status.Memory → new ≡ old
  -- and no file was written, where writing takes none either, but before an answer is sought
  pub spares : IfSome named (λ job. SparesFiles (task_of job) writes_take_memory takes_memory
      before.files after.files ended)
  -- and none is refused where there are no words
  pub no_words : takes_memory ≡ false → words ≡ []
      → (ended ≡ status.Words) ⊎ (ended ≡ status.Fault)
