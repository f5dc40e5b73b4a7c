-- What a job found was written and put, or why it has nothing: its task is performed.
use Rattle.std.proofs.Common.{◌≡◌, ◌≢◌, ◌∙◌, Bool, false, Option, Some, Result, Ok, Err, IfOk, IfSome, ap, inl, refl, subst, sym}
use Rattle.ev_outside.specs.Shelf.{Files, ShelfState}
use Rattle.ev_outside.specs.Sink.{SinkState}
use Rattle.ev_outside.specs.declared.shelf.ShelfFault.{ShelfFault}
use Rattle.ev_outside.specs.declared.shelf.ShelfFault.TheVariants.{Failed, Memory}
use Rattle.job_ending.specs.Finishing.{EndsWithout, Finishes}
use Rattle.job_frame.proofs.FileReads.{ok_is_no_error}
use Rattle.job_frame.proofs.Performed.{performs_concluded, performs_fault, performs_nothing}
use Rattle.job_frame.specs.Finds.{Finds, outcome_of}
use Rattle.job_frame.specs.Lawful.{IsLawful}
use Rattle.job_frame.specs.Performs.{Performs, PutsHeard, SparesFiles}
use Rattle.job_frame.specs.Task.{IsAnswered, Task}
use Rattle.job_frame.specs.Writes.{Leaves}
use Rattle.job_frame.specs.declared.found.Found.{Found}
use Rattle.job_frame.specs.declared.status.Status.{Status}
use Rattle.job_frame.specs.declared.status.Status.TheVariants as status

-- an end on the shelf and the output as they were is an end on those that are the same
ends_there : {C : Type 0} (task : Task C) (fault : ShelfFault) (before between after : ShelfState) (old new : SinkState) (ended other : Status) → EndsWithout fault between after old new ended → ended ≡ other
    → Performs task before between old old other → Performs task before after old new ended
ends_there {C} task fault before between after old new ended other without same performs =
    subst (λ (s : Status). Performs task before after old new s) (sym same)
    (subst (λ (sink : SinkState). Performs task before after old sink other) (sym without.sink)
    (subst (λ (shelf : ShelfState). Performs task before shelf old old other) (sym without.shelf) performs))

pub performs_finished : {C : Type 0} (task : Task C) → IsLawful task → {before between after : ShelfState} {old new : SinkState} {ended : Status} (found : Result (Found C) ShelfFault) → Finds task before between found
    → ended ≢ status.Words → Finishes found between after old new ended → Performs task before after old new ended
performs_finished {C} task lawful {before} {between} {after} {old} {new} {ended} (Ok f) finds words finishes =
    performs_concluded task lawful before between after old new (outcome_of f) ended finds.answers finds.files (finds.stays (λ failed. ok_is_no_error failed)) words finishes.concludes
performs_finished {C} task lawful {before} {between} {after} {old} {new} {ended} (Err Failed) finds words finishes =
    ends_there task Failed before between after old new ended status.Fault finishes.without finishes.without.status_is (performs_fault task lawful before between old (finds.fault refl) finds.files)
performs_finished {C} task lawful {before} {between} {after} {old} {new} {ended} (Err Memory) finds words finishes =
    ends_there task Memory before between after old new ended status.Memory finishes.without finishes.without.status_is (performs_nothing task lawful before between old finds.files)

-- ---- want of memory

-- it leaves every file as it was where it leaves the shelf so
pub spares_shelf : {C : Type 0} (task : Task C) {writes_take puts_take : Bool} {files : Option Files} {between after : ShelfState} {ended : Status} → between.files ≡ files
    → (writes_take ≡ false → puts_take ≡ false → ended ≡ status.Memory → after ≡ between) → SparesFiles task writes_take puts_take files after.files ended
spares_shelf {C} task {writes_take} {puts_take} {files} {between} {after} {ended} stay same = record {
  memory = λ writes puts is. inl (ap (λ (shelf : ShelfState). shelf.files) (same writes puts is) ∙ stay);
}

-- it comes before anything is written of what was found
pub spares_finished : {C : Type 0} (task : Task C) {of : Task C} {writes_take puts_take : Bool} {before between after : ShelfState} {ended : Status} {found : Result (Found C) ShelfFault} → Finds of before between found
    → (writes_take ≡ false → puts_take ≡ false → ended ≡ status.Memory → after ≡ between) → SparesFiles task writes_take puts_take before.files after.files ended
spares_finished {C} task {of} {writes_take} {puts_take} {before} {between} {after} {ended} {found} finds same = spares_shelf task finds.files same

-- ---- its cause

answered_not : {C : Type 0} (task : Task C) (fault : ShelfFault) (before between after : ShelfState) (old new : SinkState) (ended : Status) (heard : Option C) → EndsWithout fault between after old new ended → IsAnswered ended
    → PutsHeard task before.files after.files old.written new.written ended heard
answered_not {C} task Failed before between after old new ended heard without is = absurd (subst (λ (s : Status). IsAnswered s) without.status_is is)
answered_not {C} task Memory before between after old new ended heard without is = absurd (subst (λ (s : Status). IsAnswered s) without.status_is is)

-- what was found was put, and its cause was heard
pub hears_finished : {C : Type 0} (task : Task C) {before between after : ShelfState} {old new : SinkState} {ended : Status} {heard : Option C} (found : Result (Found C) ShelfFault) → Finds task before between found
    → Finishes found between after old new ended → IfOk found (λ f. IfSome f.answer.cause (λ cause. heard ≡ Some cause))
    → IsAnswered ended → PutsHeard task before.files after.files old.written new.written ended heard
hears_finished {C} task {before} {between} {after} {old} {new} {ended} {heard} (Ok f) finds finishes told is =
    let same = finishes.concludes.status_is is in
    record {
      puts = record {
        outcome = outcome_of f;
        answers = finds.answers;
        status_is = same;
        written = subst (λ (files : Option Files). Leaves (outcome_of f).writes files after.files) finds.files (finishes.concludes.written is);
        put = finishes.concludes.put is;
      };
      cause = f.answer.cause;
      is = subst (λ (s : Status). task.heard s f.answer.text.items f.answer.cause) (sym same) finds.heard;
      was_heard = told;
    }
hears_finished {C} task {before} {between} {after} {old} {new} {ended} {heard} (Err fault) finds finishes told is =
    answered_not task fault before between after old new ended heard finishes.without is
