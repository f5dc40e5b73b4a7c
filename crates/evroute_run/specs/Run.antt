-- What the program owes for its words.
use Rattle.std.specs.Prelude.{List, map, Option, String, string_bytes}
use Rattle.std.specs.declared.alloc.Global.{Global}
use Rattle.command_line.specs.Usage.{usage_text}
use Rattle.command_line.specs.Words.{BoundFleets, CheckBound, CheckMixed, CheckPlan, CheckRoute, ConvertFile, FixedRoute, ImprovePlan, Job, MakeInstance, PlanFleet, PlanMixed, ProveRoute, job_of}
use Rattle.ev_outside.specs.Shelf.{ShelfState}
use Rattle.ev_outside.specs.Sink.{SinkState}
use Rattle.evroute_run.specs.BoundAnswer.{bound_task}
use Rattle.evroute_run.specs.CheckAnswer.{check_task}
use Rattle.evroute_run.specs.CheckBoundAnswer.{check_bound_task}
use Rattle.evroute_run.specs.CheckRouteAnswer.{check_route_task}
use Rattle.evroute_run.specs.ConvertAnswer.{convert_task}
use Rattle.evroute_run.specs.FixedAnswer.{fixed_task}
use Rattle.evroute_run.specs.FleetAnswer.{fleet_task}
use Rattle.evroute_run.specs.ImproveAnswer.{improve_task}
use Rattle.evroute_run.specs.MakeAnswer.{make_task}
use Rattle.evroute_run.specs.ProveAnswer.{prove_task}
use Rattle.job_ending.specs.Running.{TellsUsageOf}
use Rattle.job_frame.specs.Task.{Task}
use Rattle.job_frame.specs.declared.status.Status.{Status}
use Rattle.mixed_run.specs.CheckMixedAnswer.{check_mixed_task}
use Rattle.mixed_run.specs.MixedAnswer.{mixed_task}
use Rattle.evroute_causes.specs.declared.cause.Cause.{Cause}

-- the job that the words name, if they name one
abbrev pub job_named : List (String Global) → Option Job
job_named words = job_of (map (λ word. string_bytes word) words)

-- a job as a task: what it reads, and what it answers
abbrev pub task_of : Job → Task Cause
task_of (FixedRoute job) = fixed_task job
task_of (PlanFleet job) = fleet_task job
task_of (CheckPlan job) = check_task job
task_of (ConvertFile job) = convert_task job
task_of (MakeInstance job) = make_task job
task_of (BoundFleets job) = bound_task job
task_of (CheckBound job) = check_bound_task job
task_of (ProveRoute job) = prove_task job
task_of (CheckRoute job) = check_route_task job
task_of (ImprovePlan job) = improve_task job
task_of (PlanMixed job) = mixed_task job
task_of (CheckMixed job) = check_mixed_task job

-- what the program owes where its words name no job: it tells how it is called
abbrev pub TellsUsage : ShelfState → ShelfState → SinkState → SinkState → Status → Type 0
TellsUsage before after old new ended = TellsUsageOf usage_text before after old new ended
