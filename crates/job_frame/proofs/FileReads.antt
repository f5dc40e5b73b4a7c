-- Files that are read one after another, and what a command finds behind a read.
use Rattle.std.proofs.Common.{◌≡◌, ◌∙◌, ℕ, List, [], ◌∷◌, take, Option, None, Some, Result, Ok, Err, IfOk, IfErr, IsErrOf, ap, ap₂, map, arith, inl, inr, refl, subst, sym}
use Rattle.ev_outside.specs.Counts.{Rose}
use Rattle.ev_outside.specs.Shelf.{CountsNeverFall, CountsStay, Files, ShelfState, bytes_under}
use Rattle.ev_outside.specs.declared.shelf.ShelfFault.{ShelfFault}
use Rattle.ev_outside.specs.declared.shelf.ShelfFault.TheVariants.{Failed, Memory}
use Rattle.job_frame.proofs.FileWrites.{counts_since, failed_since}
use Rattle.job_frame.specs.Faults.{FailsReading, FailsToSeek, HasFailedRead}
use Rattle.job_frame.specs.Finds.{Finds, Hears, outcome_of, written_by}
use Rattle.job_frame.specs.Task.{Answers, AreRead, AreReadUpTo, IsAnswered, Outcome, Read, Task, Tells}
use Rattle.job_frame.specs.Writes.{AreDifferent, Written}
use Rattle.job_frame.specs.declared.found.Found.{Found}
use Rattle.job_frame.specs.declared.found.NewFile.{NewFile}
use Rattle.job_frame.specs.declared.status.Status.{Status}

-- whatever stands under a name, some bytes are read
pub some_read : (most : ℕ) (files : Option Files) (name : List ℕ) → (bytes : List ℕ) × AreReadUpTo most files name bytes
some_read most None name = ([], omega arith)
some_read most (Some files) name = (take most (bytes_under files name), refl)

-- a shelf that tells its files has one reading of them
one_of_told : (files : Files) (reads : List Read) (bytes others : List (List ℕ)) → AreRead (Some files) reads bytes → AreRead (Some files) reads others → bytes ≡ others
one_of_told files [] [] [] p q = refl
one_of_told files (r ∷ rs) (b ∷ bs) (c ∷ cs) p q = ap₂ (λ (x : List ℕ) (xs : List (List ℕ)). x ∷ xs) (p.0 ∙ sym q.0) (one_of_told files rs bs cs p.1 q.1)
one_of_told files [] [] (c ∷ cs) p q = absurd q
one_of_told files [] (b ∷ bs) others p q = absurd p
one_of_told files (r ∷ rs) [] others p q = absurd p
one_of_told files (r ∷ rs) (b ∷ bs) [] p q = absurd q

nothing_read : (files : Option Files) (bytes others : List (List ℕ)) → AreRead files [] bytes → AreRead files [] others → bytes ≡ others
nothing_read files [] [] p q = refl
nothing_read files [] (c ∷ cs) p q = absurd q
nothing_read files (b ∷ bs) others p q = absurd p

pub one_reading : (reads : List Read) (files : Option Files) (bytes others : List (List ℕ)) → Tells reads files → AreRead files reads bytes → AreRead files reads others → bytes ≡ others
one_reading [] files bytes others told p q = nothing_read files bytes others p q
one_reading (r ∷ rs) None bytes others told p q = absurd told
one_reading (r ∷ rs) (Some files) bytes others told p q = one_of_told files (r ∷ rs) bytes others p q

-- ---- what a command finds

pub ok_is_no_error : {A E : Type 0} {a : A} {e : E} → ◌≡◌ {A = Result A E} (Ok a) (Err e) → ⊥
ok_is_no_error same = cc

error_or : {A E : Type 0} → E → Result A E → E
error_or d (Ok a) = d
error_or d (Err e) = e

same_error : {A E : Type 0} (e other : E) → ◌≡◌ {A = Result A E} (Err e) (Err other) → e ≡ other
unfolding error_or
same_error {A} {E} e other same = ap (λ (r : Result A E). error_or e r) same

pub memory_is_no_failure : {A : Type 0} (made : Result A ShelfFault) → IfErr made (λ fault. fault ≡ Memory) → IsErrOf made Failed → ⊥
memory_is_no_failure (Ok a) memory failed = ok_is_no_error failed
memory_is_no_failure (Err Memory) memory failed = cc
memory_is_no_failure (Err Failed) memory failed = cc

pub nothing_fails : (shelf : ShelfState) → CountsStay shelf shelf
nothing_fails shelf = record { reads = λ name. refl; writes = λ name. refl }

pub nothing_falls : (shelf : ShelfState) → CountsNeverFall shelf shelf
nothing_falls shelf = record { reads = λ name. omega arith; writes = λ name. omega arith }

pub never_fall_since : (before later after : ShelfState) → CountsNeverFall before later → CountsNeverFall later after → CountsNeverFall before after
never_fall_since before later after p q = record {
  reads = λ name. omega (arith, p.reads name, q.reads name);
  writes = λ name. omega (arith, p.writes name, q.writes name);
}

-- an answer, or want of memory, behind reads that did not fail
pub finds : {C : Type 0} (task : Task C) (before after : ShelfState) (found : Result (Found C) ShelfFault) → IfOk found (λ f. IsAnswered f.answer.status)
    → IfOk found (λ f. Answers task before.files (outcome_of f)) → IfOk found (Hears task) → IfOk found (λ f. AreDifferent (outcome_of f).writes) → IfErr found (λ fault. fault ≡ Memory)
    → CountsStay before after → CountsNeverFall before after → after.files ≡ before.files → Finds task before after found
finds {C} task before after found answered answers heard different memory stays falls files = record {
  answered = answered;
  answers = answers;
  heard = heard;
  different = different;
  fault = λ failed. absurd (memory_is_no_failure found memory failed);
  stays = λ none. stays;
  falls = falls;
  files = files;
}

same_outcome : (s t : Status) (vs ws : List Written) (xs ys : List ℕ) → s ≡ t → vs ≡ ws → xs ≡ ys →
    ◌≡◌ {A = Outcome} (record { status = s; writes = vs; text = xs }) (record { status = t; writes = ws; text = ys })
same_outcome s t vs ws xs ys p q r =
    ap (λ (x : Status). record { status = x; writes = vs; text = xs }) p
    ∙ ap (λ (x : List Written). record { status = t; writes = x; text = xs }) q
    ∙ ap (λ (x : List ℕ). record { status = t; writes = ws; text = x }) r

outcome_is : {C : Type 0} (o : Outcome) (f : Found C) → f.answer.status ≡ o.status → map written_by f.files.items ≡ o.writes → f.answer.text.items ≡ o.text → outcome_of f ≡ o
outcome_is {C} o f status writes text = same_outcome f.answer.status o.status (map written_by f.files.items) o.writes f.answer.text.items o.text status writes text

-- what was found stands for an outcome that is an answer
pub finds_as : {C : Type 0} (task : Task C) (before after : ShelfState) (o : Outcome) (found : Result (Found C) ShelfFault) → Answers task before.files o → IsAnswered o.status → IfOk found (Hears task) → AreDifferent o.writes
    → IfOk found (λ f. f.answer.status ≡ o.status) → IfOk found (λ f. map written_by f.files.items ≡ o.writes) → IfOk found (λ f. f.answer.text.items ≡ o.text)
    → IfErr found (λ fault. fault ≡ Memory) → CountsStay before after → CountsNeverFall before after → after.files ≡ before.files → Finds task before after found
finds_as {C} task before after o (Err fault) answers answered heard different status writes text memory stays falls files =
    finds task before after (Err fault) tt tt tt tt memory stays falls files
finds_as {C} task before after o (Ok f) answers answered heard different status writes text memory stays falls files =
    let same : outcome_of f ≡ o = outcome_is o f status writes text in
    finds task before after (Ok f) (subst (λ (s : Status). IsAnswered s) (sym status) answered)
    (subst (λ (x : Outcome). Answers task before.files x) (sym same) answers) heard (subst (λ (ws : List Written). AreDifferent ws) (sym writes) different) tt stays falls files

no_files : {C : Type 0} (found : Result (Found C) ShelfFault) → IfOk found (λ f. f.files.items ≡ []) → IfOk found (λ f. map written_by f.files.items ≡ [])
no_files {C} (Err fault) none = tt
no_files {C} (Ok f) none = ap (λ (files : List NewFile). map written_by files) none

-- the same where no file is written
pub finds_alone : {C : Type 0} (task : Task C) (before after : ShelfState) (answered : Status) (text : List ℕ) (found : Result (Found C) ShelfFault)
    → Answers task before.files (record { status = answered; writes = []; text = text }) → IsAnswered answered → IfOk found (Hears task)
    → IfOk found (λ f. f.answer.status ≡ answered) → IfOk found (λ f. f.answer.text.items ≡ text) → IfOk found (λ f. f.files.items ≡ [])
    → IfErr found (λ fault. fault ≡ Memory) → CountsStay before after → CountsNeverFall before after → after.files ≡ before.files → Finds task before after found
finds_alone {C} task before after answered text found answers is heard status text_is none memory stays falls files =
    finds_as task before after (record { status = answered; writes = []; text = text }) found answers is heard tt status (no_files found none) text_is memory stays falls files

-- why nothing is found: no answer was sought, or memory was refused
pub finds_unsought : {C : Type 0} {A : Type 0} (task : Task C) (before after : ShelfState) (fault : ShelfFault)
    → (◌≡◌ {A = Result A ShelfFault} (Err fault) (Err Failed) → FailsToSeek task before after)
    → ((◌≡◌ {A = Result A ShelfFault} (Err fault) (Err Failed) → ⊥) → CountsStay before after)
    → CountsNeverFall before after → after.files ≡ before.files → Finds task before after (Err fault)
finds_unsought {C} {A} task before after fault failed stays falls files = record {
  answered = tt;
  answers = tt;
  heard = tt;
  different = tt;
  fault = λ is. failed (ap {B = Result A ShelfFault} (λ (e : ShelfFault). Err e) (same_error fault Failed is));
  stays = λ none. stays (λ is. none (ap {B = Result (Found C) ShelfFault} (λ (e : ShelfFault). Err e) (same_error fault Failed is)));
  falls = falls;
  files = files;
}

-- the next file that is read failed, or memory was refused
pub finds_none : {C : Type 0} {A : Type 0} (task : Task C) (before after : ShelfState) (fault : ShelfFault)
    → (◌≡◌ {A = Result A ShelfFault} (Err fault) (Err Failed) → FailsReading task before after)
    → ((◌≡◌ {A = Result A ShelfFault} (Err fault) (Err Failed) → ⊥) → CountsStay before after)
    → CountsNeverFall before after → after.files ≡ before.files → Finds task before after (Err fault)
finds_none {C} {A} task before after fault failed stays falls files = finds_unsought {A = A} task before after fault (λ is. inl (failed is)) stays falls files

-- from an earlier state of the shelf on, from which its files and its counts stayed
reading_since : {C : Type 0} (task : Task C) (before later after : ShelfState) → later.files ≡ before.files → CountsStay before later → FailsReading task later after → FailsReading task before after
reading_since {C} task before later after same stays fails = record {
  first = fails.first;
  read = fails.read;
  rest = fails.rest;
  are = fails.are;
  bytes = fails.bytes;
  are_read = subst (λ (files : Option Files). AreRead files fails.first fails.bytes) same fails.are_read;
  goes_on = fails.goes_on;
  failed = (subst (λ (n : ℕ). Rose n (after.failed_reads fails.read.name)) (stays.reads fails.read.name) fails.failed.0, fails.failed.1);
}

fails_since : {C : Type 0} (task : Task C) (before later after : ShelfState) → later.files ≡ before.files → CountsStay before later → FailsToSeek task later after → FailsToSeek task before after
fails_since {C} task before later after same stays (inl fails) = inl (reading_since task before later after same stays fails)
fails_since {C} task before later after same stays (inr fails) = inr (record {
  name = fails.name;
  is_asked = fails.is_asked;
  failed = failed_since before later after fails.name stays fails.failed;
})

answers_since : {C : Type 0} (task : Task C) (files later : Option Files) (o : Outcome) → later ≡ files → Answers task later o → Answers task files o
answers_since {C} task files later o same answers = record {
  bytes = answers.bytes;
  read = subst (λ (fs : Option Files). AreRead fs task.reads answers.bytes) same answers.read;
  answer = answers.answer;
}

found_since : {C : Type 0} (task : Task C) (files later : Option Files) (found : Result (Found C) ShelfFault) → later ≡ files → IfOk found (λ f. Answers task later (outcome_of f)) → IfOk found (λ f. Answers task files (outcome_of f))
found_since {C} task files later (Err fault) same answers = tt
found_since {C} task files later (Ok f) same answers = answers_since task files later (outcome_of f) same answers

pub finds_since : {C : Type 0} (task : Task C) (before later after : ShelfState) (found : Result (Found C) ShelfFault) →
    later.files ≡ before.files → CountsStay before later → CountsNeverFall before later → Finds task later after found → Finds task before after found
finds_since {C} task before later after found same stays falls finds = record {
  answered = finds.answered;
  heard = finds.heard;
  answers = found_since task before.files later.files found same finds.answers;
  different = finds.different;
  fault = λ failed. fails_since task before later after same stays (finds.fault failed);
  stays = λ none. counts_since before later after stays (finds.stays none);
  falls = never_fall_since before later after falls finds.falls;
  files = finds.files ∙ same;
}

-- the first file that a task reads failed
pub fails_at_once : {C : Type 0} (task : Task C) (before after : ShelfState) (read : Read) (rest : List Read) → task.reads ≡ read ∷ rest → task.goes_on [] → HasFailedRead before after read.name → FailsReading task before after
fails_at_once {C} task before after read rest are goes_on failed = record {
  first = [];
  read = read;
  rest = rest;
  are = are;
  bytes = [];
  are_read = tt;
  goes_on = goes_on;
  failed = failed;
}

-- ---- a name that was handed on

pub named_read : (most : ℕ) (files : Option Files) (given name bytes : List ℕ) → given ≡ name → AreReadUpTo most files given bytes → AreReadUpTo most files name bytes
named_read most files given name bytes same read = subst (λ (n : List ℕ). AreReadUpTo most files n bytes) same read

pub named_failed : (before after : ShelfState) (given name : List ℕ) → given ≡ name → HasFailedRead before after given → HasFailedRead before after name
named_failed before after given name same failed = subst (λ (n : List ℕ). HasFailedRead before after n) same failed

-- bytes that were read stand in the same files of a later shelf
pub read_still : (most : ℕ) (files later : Option Files) (name bytes : List ℕ) → later ≡ files → AreReadUpTo most files name bytes → AreReadUpTo most later name bytes
read_still most files later name bytes same read = subst (λ (fs : Option Files). AreReadUpTo most fs name bytes) (sym same) read
