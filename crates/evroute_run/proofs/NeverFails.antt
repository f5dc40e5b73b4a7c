-- Over files and an output that never fail, no job ends with a fault.
use Rattle.std.proofs.Common.{◌≢◌, ℕ, List, Option, None, Some, IfSome, IsNone, String, refl}
use Rattle.std.specs.declared.alloc.Global.{Global}
use Rattle.command_line.specs.Words.{Job}
use Rattle.ev_outside.specs.Shelf.{Files}
use Rattle.ev_outside.specs.Sure.{sure_output, without_faults}
use Rattle.job_frame.proofs.Performed.{never_fails, never_rose}
use Rattle.job_frame.specs.Performs.{Performs}
use Rattle.job_frame.specs.declared.status.Status.{Status}
use Rattle.job_frame.specs.declared.status.Status.TheVariants as status
use Rattle.evroute_run.specs.Run.{TellsUsage, job_named, task_of}

named_fails_not : (named : Option Job) (files left : Files) (old new : List ℕ) (ended : Status)
    → (IsNone named → TellsUsage (without_faults files) (without_faults left) (sure_output old) (sure_output new) ended)
    → IfSome named (λ job. Performs (task_of job) (without_faults files) (without_faults left) (sure_output old) (sure_output new) ended)
    → ended ≢ status.Fault
named_fails_not None files left old new ended usage performs is = never_rose ((usage refl).fault is)
named_fails_not (Some job) files left old new ended usage performs is = never_fails (task_of job) files left old new (performs.fault is)

pub runs_surely : (words : List (String Global)) (files left : Files) (old new : List ℕ) (ended : Status)
    → (IsNone (job_named words) → TellsUsage (without_faults files) (without_faults left) (sure_output old) (sure_output new) ended)
    → IfSome (job_named words) (λ job. Performs (task_of job) (without_faults files) (without_faults left) (sure_output old) (sure_output new) ended)
    → ended ≢ status.Fault
runs_surely words files left old new ended usage performs = named_fails_not (job_named words) files left old new ended usage performs
