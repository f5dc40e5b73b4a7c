-- What the program owes for its words, however it ends.
use Rattle.std.specs.Prelude.{List, Bool, Option, String}
use Rattle.std.specs.declared.alloc.Global.{Global}
use Rattle.ev_outside.specs.Shelf.{ShelfState}
use Rattle.ev_outside.specs.Sink.{SinkState}
use Rattle.evroute_causes.specs.declared.cause.Cause.{Cause}
use Rattle.evroute_causes.specs.declared.cause.Cause.TheVariants as cause
use Rattle.evroute_run.specs.Run.{job_named, task_of}
use Rattle.job_ending.specs.Running.{RunsFor}
use Rattle.job_frame.specs.declared.status.Status.{Status}
use Rattle.command_line.specs.Usage.{usage_text}

-- from the shelf before to the shelf after, writing on which takes memory or none, from the old
-- output to the new one, putting on which takes memory or none, where this cause was heard last
abbrev pub Runs : List (String Global) → Bool → Bool → ShelfState → ShelfState →
    SinkState → SinkState → Option Cause → Status → Type 0
Runs words writes_take_memory takes_memory before after old new heard ended =
    RunsFor usage_text cause.Words task_of words (job_named words) writes_take_memory takes_memory
    before after old new heard ended
