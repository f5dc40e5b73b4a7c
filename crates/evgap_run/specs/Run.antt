-- What the program owes for its words.
use Rattle.std.specs.Prelude.{List, codes, map, Option, String, string_bytes}
use Rattle.std.specs.declared.alloc.Global.{Global}
use Rattle.ev_outside.specs.Shelf.{ShelfState}
use Rattle.ev_outside.specs.Sink.{SinkState}
use Rattle.gap_words.specs.Usage.{usage_text}
use Rattle.gap_words.specs.Words.{Checking, Job, Planning, Telling, job_of}
use Rattle.job_ending.specs.Running.{TellsUsageOf}
use Rattle.job_frame.specs.Task.{Task}
use Rattle.job_frame.specs.declared.status.Status.{Status}
use Rattle.job_telling.specs.ToldTask.{tell_task}
use Rattle.evgap_run.specs.CheckAnswer.{check_task}
use Rattle.evgap_run.specs.PlanAnswer.{plan_task}
use Rattle.evgap_run.specs.declared.cause.Cause.{Cause}

-- the job that the words name, if they name one
abbrev pub job_named : List (String Global) → Option Job
job_named words = job_of (map (λ word. string_bytes word) words)

-- a job as a task: what it reads, and what it answers
abbrev pub task_of : Job → Task Cause
task_of (Planning job) = plan_task job
task_of (Checking job) = check_task job
task_of (Telling told) = tell_task (codes "evgap") usage_text told

-- what the program owes where its words name no job: it tells how it is called
abbrev pub TellsUsage : ShelfState → ShelfState → SinkState → SinkState → Status → Type 0
TellsUsage before after old new ended = TellsUsageOf usage_text before after old new ended
