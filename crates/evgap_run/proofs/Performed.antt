-- The job that the words name is performed.
use Rattle.std.proofs.Common.{◌≡◌, ◌≢◌, ℕ, IfOk, IfSome, List, Option, Result, Some, codes, subst, sym}
use Rattle.ev_outside.specs.Shelf.{Files, ShelfState}
use Rattle.ev_outside.specs.Sink.{SinkState}
use Rattle.ev_outside.specs.declared.shelf.ShelfFault.{ShelfFault}
use Rattle.evgap_run.proofs.CheckLaw.{check_lawful}
use Rattle.evgap_run.proofs.PlanLaw.{plan_lawful}
use Rattle.evgap_run.specs.Run.{task_of}
use Rattle.gap_words.specs.JobValue.{job_value}
use Rattle.gap_words.specs.Usage.{usage_text}
use Rattle.gap_words.specs.Words.{Checking, Job, Planning, Telling}
use Rattle.gap_words.specs.declared.Job as values
use Rattle.job_ending.proofs.Finished.{hears_finished, performs_finished}
use Rattle.job_ending.specs.Finishing.{Finishes}
use Rattle.job_telling.proofs.Lawful.{tell_lawful}
use Rattle.job_telling.specs.ToldTask.{tell_task}
use Rattle.job_telling.specs.declared.words.Told.{Told}
use Rattle.job_frame.specs.Lawful.{IsLawful}
use Rattle.job_frame.specs.Finds.{Finds}
use Rattle.job_frame.specs.Performs.{Performs, PutsHeard}
use Rattle.job_frame.specs.Task.{IsAnswered}
use Rattle.job_frame.specs.declared.found.Found.{Found}
use Rattle.job_frame.specs.declared.status.Status.{Status}
use Rattle.job_frame.specs.declared.status.Status.TheVariants as status
use Rattle.evgap_run.specs.declared.cause.Cause.{Cause}

-- what each command proves of its task
pub is_lawful : (job : Job) → IsLawful (task_of job)
is_lawful (Planning job) = plan_lawful job
is_lawful (Checking job) = check_lawful job
is_lawful (Telling told) = tell_lawful (codes "evgap") usage_text told

-- ---- what is shown of a job's value holds of the job that has it

pub value_performs : {before after : ShelfState} {old new : SinkState} {ended : Status} (job of : values.Job) → job ≡ of → Performs (task_of (job_value of)) before after old new ended → Performs (task_of (job_value job)) before after old new ended
value_performs {before} {after} {old} {new} {ended} job of is performs = subst (λ (j : values.Job). Performs (task_of (job_value j)) before after old new ended) (sym is) performs

-- what was found for the value of a job is written and put
pub finished : {before between after : ShelfState} {old new : SinkState} {ended : Status} {found : Result (Found Cause) ShelfFault} (job of : values.Job) → ended ≢ status.Words
    → Finishes found between after old new ended → job ≡ of → Finds (task_of (job_value of)) before between found → Performs (task_of (job_value job)) before after old new ended
finished {before} {between} {after} {old} {new} {ended} {found} job of words finishes is finds =
    value_performs job of is (performs_finished (task_of (job_value of)) (is_lawful (job_value of)) found finds words finishes)

pub value_hears : {files left : Option Files} {old new : Option (List ℕ)} {ended : Status} {heard : Option Cause} (job of : values.Job) → job ≡ of
    → (IsAnswered ended → PutsHeard (task_of (job_value of)) files left old new ended heard) → IsAnswered ended → PutsHeard (task_of (job_value job)) files left old new ended heard
value_hears {files} {left} {old} {new} {ended} {heard} job of is hears =
    subst (λ (j : values.Job). IsAnswered ended → PutsHeard (task_of (job_value j)) files left old new ended heard) (sym is) hears

-- and its cause is heard
pub finished_heard : {before between after : ShelfState} {old new : SinkState} {ended : Status} {heard : Option Cause} {found : Result (Found Cause) ShelfFault} (job of : values.Job)
    → Finishes found between after old new ended → IfOk found (λ f. IfSome f.answer.cause (λ cause. heard ≡ Some cause)) → job ≡ of → Finds (task_of (job_value of)) before between found
    → IsAnswered ended → PutsHeard (task_of (job_value job)) before.files after.files old.written new.written ended heard
finished_heard {before} {between} {after} {old} {new} {ended} {heard} {found} job of finishes told is finds =
    value_hears job of is (hears_finished (task_of (job_value of)) found finds finishes told)

-- what is told of the program, by its usage text
pub told_so : {shelf : ShelfState} {found : Result (Found Cause) ShelfFault} (usage : List ℕ) (told : Told) → usage ≡ usage_text
    → Finds (tell_task (codes "evgap") usage told) shelf shelf found → Finds (tell_task (codes "evgap") usage_text told) shelf shelf found
told_so {shelf} {found} usage told is finds = subst (λ (text : List ℕ). Finds (tell_task (codes "evgap") text told) shelf shelf found) is finds
