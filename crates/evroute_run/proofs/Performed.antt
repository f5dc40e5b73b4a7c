-- The job that the words name is performed.
use Rattle.std.proofs.Common.{◌≡◌, ◌≢◌, ℕ, Bool, IfOk, IfSome, List, Option, Result, Some, subst, sym}
use Rattle.command_line.specs.JobValue.{job_value}
use Rattle.command_line.specs.Words.{BoundFleets, CheckBound, CheckMixed, CheckPlan, CheckRoute, ConvertFile, FixedRoute, ImprovePlan, Job, MakeInstance, PlanFleet, PlanMixed, ProveRoute}
use Rattle.command_line.specs.declared.Job as values
use Rattle.ev_outside.specs.Shelf.{Files, ShelfState}
use Rattle.ev_outside.specs.Sink.{SinkState}
use Rattle.ev_outside.specs.declared.shelf.ShelfFault.{ShelfFault}
use Rattle.evroute_run.proofs.BoundLaw.{bound_lawful}
use Rattle.evroute_run.proofs.CheckBoundLaw.{check_bound_lawful}
use Rattle.evroute_run.proofs.CheckLaw.{check_lawful}
use Rattle.evroute_run.proofs.CheckRouteLaw.{check_route_lawful}
use Rattle.evroute_run.proofs.ConvertLaw.{convert_lawful}
use Rattle.evroute_run.proofs.FixedLaw.{fixed_lawful}
use Rattle.evroute_run.proofs.FleetLaw.{fleet_lawful}
use Rattle.evroute_run.proofs.ImproveLaw.{improve_lawful}
use Rattle.evroute_run.proofs.MakeLaw.{make_lawful}
use Rattle.evroute_run.proofs.ProveLaw.{prove_lawful}
use Rattle.evroute_run.specs.Run.{task_of}
use Rattle.job_ending.proofs.Finished.{hears_finished, performs_finished}
use Rattle.job_ending.specs.Finishing.{Finishes}
use Rattle.job_frame.specs.Lawful.{IsLawful}
use Rattle.job_frame.specs.Finds.{Finds}
use Rattle.job_frame.specs.Performs.{Performs, PutsHeard, SparesFiles}
use Rattle.job_frame.specs.Task.{IsAnswered}
use Rattle.job_frame.specs.declared.found.Found.{Found}
use Rattle.job_frame.specs.declared.status.Status.{Status}
use Rattle.job_frame.specs.declared.status.Status.TheVariants as status
use Rattle.mixed_run.proofs.CheckMixedLaw.{check_mixed_lawful}
use Rattle.mixed_run.proofs.MixedLaw.{mixed_lawful}
use Rattle.evroute_causes.specs.declared.cause.Cause.{Cause}

-- what each command proves of its task
pub is_lawful : (job : Job) → IsLawful (task_of job)
is_lawful (FixedRoute job) = fixed_lawful job
is_lawful (PlanFleet job) = fleet_lawful job
is_lawful (CheckPlan job) = check_lawful job
is_lawful (ConvertFile job) = convert_lawful job
is_lawful (MakeInstance job) = make_lawful job
is_lawful (BoundFleets job) = bound_lawful job
is_lawful (CheckBound job) = check_bound_lawful job
is_lawful (ProveRoute job) = prove_lawful job
is_lawful (CheckRoute job) = check_route_lawful job
is_lawful (ImprovePlan job) = improve_lawful job
is_lawful (PlanMixed job) = mixed_lawful job
is_lawful (CheckMixed job) = check_mixed_lawful job

-- ---- what is shown of a job's value holds of the job that has it

pub value_performs : {before after : ShelfState} {old new : SinkState} {ended : Status} (job of : values.Job) → job ≡ of → Performs (task_of (job_value of)) before after old new ended → Performs (task_of (job_value job)) before after old new ended
value_performs {before} {after} {old} {new} {ended} job of is performs = subst (λ (j : values.Job). Performs (task_of (job_value j)) before after old new ended) (sym is) performs

-- what was found for the value of a job is written and put
pub finished : {before between after : ShelfState} {old new : SinkState} {ended : Status} {found : Result (Found Cause) ShelfFault} (job of : values.Job) → ended ≢ status.Words
    → Finishes found between after old new ended → job ≡ of → Finds (task_of (job_value of)) before between found → Performs (task_of (job_value job)) before after old new ended
finished {before} {between} {after} {old} {new} {ended} {found} job of words finishes is finds =
    value_performs job of is (performs_finished (task_of (job_value of)) (is_lawful (job_value of)) found finds words finishes)

pub value_hears : {files left : Option Files} {old new : Option (List ℕ)} {ended : Status} {heard : Option Cause} (job of : values.Job) → job ≡ of
    → (IsAnswered ended → PutsHeard (task_of (job_value of)) files left old new ended heard) → IsAnswered ended → PutsHeard (task_of (job_value job)) files left old new ended heard
value_hears {files} {left} {old} {new} {ended} {heard} job of is hears =
    subst (λ (j : values.Job). IsAnswered ended → PutsHeard (task_of (job_value j)) files left old new ended heard) (sym is) hears

pub value_spares : {writes_take puts_take : Bool} {files left : Option Files} {ended : Status} (job of : values.Job) → job ≡ of → SparesFiles (task_of (job_value of)) writes_take puts_take files left ended
    → SparesFiles (task_of (job_value job)) writes_take puts_take files left ended
value_spares {writes_take} {puts_take} {files} {left} {ended} job of is spares =
    subst (λ (j : values.Job). SparesFiles (task_of (job_value j)) writes_take puts_take files left ended) (sym is) spares

-- and its cause is heard
pub finished_heard : {before between after : ShelfState} {old new : SinkState} {ended : Status} {heard : Option Cause} {found : Result (Found Cause) ShelfFault} (job of : values.Job)
    → Finishes found between after old new ended → IfOk found (λ f. IfSome f.answer.cause (λ cause. heard ≡ Some cause)) → job ≡ of → Finds (task_of (job_value of)) before between found
    → IsAnswered ended → PutsHeard (task_of (job_value job)) before.files after.files old.written new.written ended heard
finished_heard {before} {between} {after} {old} {new} {ended} {heard} {found} job of finishes told is finds =
    value_hears job of is (hears_finished (task_of (job_value of)) found finds finishes told)
