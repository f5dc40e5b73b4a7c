-- What a command finds behind a read, for any task: the file failed, or memory was refused; what a
-- later step finds; an answer; the line of a refusal.
use Rattle.std.proofs.Common.{◌≡◌, ℕ, List, [], ◌∷◌, Option, Result, Ok, Err, IfOk, IfErr, ap, subst, sym}
use Rattle.ev_outside.specs.Shelf.{CountsNeverFall, CountsStay, Files, ShelfState}
use Rattle.ev_outside.specs.declared.shelf.ShelfFault.{ShelfFault}
use Rattle.ev_outside.specs.declared.shelf.ShelfFault.TheVariants.{Failed, Memory}
use Rattle.job_frame.proofs.FileReads.{fails_at_once, finds, finds_alone, finds_none, finds_since, named_failed, ok_is_no_error}
use Rattle.job_frame.specs.Faults.{FailsReading, HasFailedRead}
use Rattle.job_frame.specs.Finds.{Finds, Hears, outcome_of}
use Rattle.job_frame.specs.Task.{Answers, IsAnswered, Read, Task}
use Rattle.job_frame.specs.Writes.{AreDifferent, Written}
use Rattle.job_frame.specs.declared.found.Answer.{Answer}
use Rattle.job_frame.specs.declared.found.Found.{Found}
use Rattle.job_frame.specs.declared.status.Status.{Status}
use Rattle.job_frame.specs.declared.status.Status.TheVariants as status

-- the counts of the shelf behind a read that may have failed
abbrev pub StayUnlessFailed : {A : Type 0} → Result A ShelfFault → ShelfState → ShelfState → Type 0
StayUnlessFailed {A} made before after = (◌≡◌ {A = Result A ShelfFault} made (Err Failed) → ⊥) → CountsStay before after

stay_behind : {A : Type 0} {bytes : A} {before after : ShelfState} → StayUnlessFailed (Ok bytes) before after → CountsStay before after
stay_behind {A} {bytes} {before} {after} stays = stays (λ failed. ok_is_no_error failed)

-- the next file failed, or memory was refused
pub read_fails : {C : Type 0} {A : Type 0} {task : Task C} {before after : ShelfState} {fault : ShelfFault} {given name : List ℕ} → (HasFailedRead before after name → FailsReading task before after) → given ≡ name
    → (◌≡◌ {A = Result A ShelfFault} (Err fault) (Err Failed) → HasFailedRead before after given)
    → StayUnlessFailed {A = A} (Err fault) before after → CountsNeverFall before after → after.files ≡ before.files → Finds task before after (Err fault)
read_fails {C} {A} {task} {before} {after} {fault} {given} {name} fails same failed stays falls files =
    finds_none {A = A} task before after fault (λ is. fails (named_failed before after given name same (failed is))) stays falls files

-- the first file failed, or memory was refused
pub first_fails : {C : Type 0} {A : Type 0} {task : Task C} {before after : ShelfState} {fault : ShelfFault} {given : List ℕ} {read : Read} {rest : List Read} → task.reads ≡ read ∷ rest → task.goes_on [] → given ≡ read.name
    → (◌≡◌ {A = Result A ShelfFault} (Err fault) (Err Failed) → HasFailedRead before after given)
    → StayUnlessFailed {A = A} (Err fault) before after → CountsNeverFall before after → after.files ≡ before.files → Finds task before after (Err fault)
first_fails {C} {A} {task} {before} {after} {fault} {given} {read} {rest} are goes_on same failed stays falls files =
    read_fails {A = A} (λ is. fails_at_once task before after read rest are goes_on is) same failed stays falls files

-- what a later step finds
pub finds_behind : {C : Type 0} {A : Type 0} {bytes : A} {task : Task C} {before later after : ShelfState} {found : Result (Found C) ShelfFault} → later.files ≡ before.files
    → StayUnlessFailed (Ok bytes) before later → CountsNeverFall before later → Finds task later after found → Finds task before after found
finds_behind {C} {A} {bytes} {task} {before} {later} {after} {found} same stays falls finds =
    finds_since task before later after found same (stay_behind stays) falls finds

-- an answer, and the files that are written before it
pub finds_found : {C : Type 0} {A : Type 0} {bytes : A} {task : Task C} {before after : ShelfState} {f : Found C} → IsAnswered f.answer.status → Answers task before.files (outcome_of f) → Hears task f → AreDifferent (outcome_of f).writes
    → StayUnlessFailed (Ok bytes) before after → CountsNeverFall before after → after.files ≡ before.files → Finds task before after (Ok f)
finds_found {C} {A} {bytes} {task} {before} {after} {f} answered answers heard different stays falls files =
    finds task before after (Ok f) answered answers heard different tt (stay_behind stays) falls files

-- an answer before which no file is written
pub finds_told : {C : Type 0} {A : Type 0} {bytes : A} {task : Task C} {before after : ShelfState} {answer : Answer C} {f : Found C}
    → Answers task before.files (record { status = answer.status; writes = []; text = answer.text.items }) → IsAnswered answer.status → task.heard answer.status answer.text.items answer.cause → f.answer ≡ answer → f.files.items ≡ []
    → StayUnlessFailed (Ok bytes) before after → CountsNeverFall before after → after.files ≡ before.files → Finds task before after (Ok f)
finds_told {C} {A} {bytes} {task} {before} {after} {answer} {f} answers answered heard same none stays falls files =
    finds_alone task before after answer.status answer.text.items (Ok f) answers answered (subst (λ (a : Answer C). task.heard a.status a.text.items a.cause) (sym same) heard) (ap (λ (a : Answer C). a.status) same) (ap (λ (a : Answer C). a.text.items) same) none tt
    (stay_behind stays) falls files

-- what is heard of an answer with this status, this text and this cause
heard_so : {C : Type 0} (task : Task C) (answered : Status) (text : List ℕ) (cause : Option C) (found : Result (Found C) ShelfFault) → task.heard answered text cause
    → IfOk found (λ f. f.answer.status ≡ answered) → IfOk found (λ f. f.answer.text.items ≡ text) → IfOk found (λ f. f.answer.cause ≡ cause) → IfOk found (Hears task)
heard_so {C} task answered text cause (Err fault) heard status_is text_is cause_is = tt
heard_so {C} task answered text cause (Ok f) heard status_is text_is cause_is =
    subst (λ (s : Status). task.heard s f.answer.text.items f.answer.cause) (sym status_is)
    (subst (λ (bs : List ℕ). task.heard answered bs f.answer.cause) (sym text_is) (subst (λ (c : Option C). task.heard answered text c) (sym cause_is) heard))

-- the line of a refusal
pub finds_refused : {C : Type 0} {A : Type 0} {bytes : A} {task : Task C} {before after : ShelfState} {text : List ℕ} {cause : Option C} {found : Result (Found C) ShelfFault}
    → Answers task before.files (record { status = status.Refused; writes = []; text = text }) → task.heard status.Refused text cause → IfOk found (λ f. f.answer.cause ≡ cause)
    → IfOk found (λ f. f.answer.status ≡ status.Refused) → IfOk found (λ f. f.answer.text.items ≡ text) → IfOk found (λ f. f.files.items ≡ []) → IfErr found (λ fault. fault ≡ Memory)
    → StayUnlessFailed (Ok bytes) before after → CountsNeverFall before after → after.files ≡ before.files → Finds task before after found
finds_refused {C} {A} {bytes} {task} {before} {after} {text} {cause} {found} answers heard cause_is answered text_is none memory stays falls files =
    finds_alone task before after status.Refused text found answers tt (heard_so task status.Refused text cause found heard answered text_is cause_is) answered text_is none memory (stay_behind stays) falls files

-- ---- what a step finds behind the last read

-- what is found, as an answer of the task
pub record IsFoundFor {C : Type 0} (task : Task C) (files : Option Files) (f : Found C) : Type 0 where
  pub answered : IsAnswered f.answer.status
  pub answers : Answers task files (outcome_of f)
  pub heard : Hears task f
  pub different : AreDifferent (outcome_of f).writes

-- what is found for the task, or want of memory
pub finds_made : {C : Type 0} {A : Type 0} {bytes : A} {task : Task C} {before after : ShelfState} (found : Result (Found C) ShelfFault) → IfOk found (λ f. IsFoundFor task before.files f)
    → IfErr found (λ fault. fault ≡ Memory) → StayUnlessFailed (Ok bytes) before after → CountsNeverFall before after → after.files ≡ before.files → Finds task before after found
finds_made {C} {A} {bytes} {task} {before} {after} (Err fault) is memory stays falls files = finds task before after (Err fault) tt tt tt tt memory (stay_behind stays) falls files
finds_made {C} {A} {bytes} {task} {before} {after} (Ok f) is memory stays falls files =
    finds task before after (Ok f) is.answered is.answers is.heard is.different tt (stay_behind stays) falls files

pub one_write : (name bytes : List ℕ) (ws : List Written) → ws ≡ record { name = name; bytes = bytes } ∷ [] → AreDifferent ws
one_write name bytes ws is = subst (λ (xs : List Written). AreDifferent xs) (sym is) (tt, tt)

pub no_write : (ws : List Written) → ws ≡ [] → AreDifferent ws
no_write ws is = subst (λ (xs : List Written). AreDifferent xs) (sym is) tt
