-- A task whose outcome was found, written and put is performed.
use Rattle.std.proofs.Common.{◌≡◌, ◌≢◌, ◌∙◌, ℕ, ◌⊎◌, ◌≤◌, List, [], ◌∷◌, ◌++◌, Option, None, Some, arith, inl, inr, refl, subst, sym}
use Rattle.ev_outside.specs.Counts.{Rose}
use Rattle.ev_outside.specs.Shelf.{CountsStay, Files, ShelfState}
use Rattle.ev_outside.specs.Sink.{Adds, AddsPrefix, SinkState}
use Rattle.ev_outside.specs.Sure.{sure_output, without_faults}
use Rattle.job_frame.proofs.FileReads.{nothing_fails, one_reading}
use Rattle.job_frame.proofs.FileWrites.{leaves_held}
use Rattle.job_frame.specs.Faults.{ComesToPut, Concludes, FailsToAnswer, FailsToSeek, FailsWriting, PutsPartOf, StopsToAnswer}
use Rattle.job_frame.specs.Lawful.{AreWrittenAlike, IsLawful}
use Rattle.job_frame.specs.Performs.{BreakNoRule, EndsUnlessHindered, HasFaultCause, IsCutOff, Performs, PutsAnswer, PutsPart}
use Rattle.job_frame.specs.Task.{Answers, IsAnswered, Outcome, Task, Tells}
use Rattle.job_frame.specs.Writes.{HoldsAll, KeepsAllBut, Leaves, StandIn, Written}
use Rattle.job_frame.specs.declared.status.Status.{Status}
use Rattle.job_frame.specs.declared.status.Status.TheVariants as status

both_in : (o p : Outcome) (old new : Option Files) → Leaves o.writes old new → StandIn p.writes new → AreWrittenAlike o p
both_in o p old None leaves stand = absurd stand
both_in o p old (Some files) leaves stand = record { files = files; one = (leaves_held o.writes old (Some files) leaves).0; other = stand }

-- two answers to files that are told have one status
one_answer : {C : Type 0} (task : Task C) → IsLawful task → (files left : Option Files) (o p : Outcome) → Tells task.reads files → Answers task files o → Answers task files p
    → Leaves o.writes files left → (task.is_open → StandIn p.writes left) → o.status ≡ p.status
one_answer {C} task lawful files left o p told is other leaves stand =
    let same : other.bytes ≡ is.bytes = one_reading task.reads files other.bytes is.bytes told other.read is.read in
    lawful.one_status is.bytes o p is.answer (subst (λ (bs : List (List ℕ)). task.answers bs p) same other.answer)
    (λ open_. both_in o p files left leaves (stand open_))

ends_so : {C : Type 0} (task : Task C) → IsLawful task → (files left : Option Files) (old new : Option (List ℕ)) (ended : Status) (p : Outcome) → PutsAnswer task files left old new ended → Tells task.reads files
    → Answers task files p → (task.is_open → StandIn p.writes left) → EndsUnlessHindered p.status ended
ends_so {C} task lawful files left old new ended p puts told is stand =
    inl (puts.status_is ∙ one_answer task lawful files left puts.outcome p told puts.answers is puts.written stand)

exactly : {C : Type 0} (task : Task C) → IsLawful task → (files left : Option Files) (old new : Option (List ℕ)) (ended : Status) → ended ≢ status.Words →
    (IsAnswered ended → PutsAnswer task files left old new ended) → Tells task.reads files → (o : Outcome) → Answers task files o
    → (task.is_open → StandIn o.writes left) → EndsUnlessHindered o.status ended
exactly {C} task lawful files left old new status.Done words answer told o is stand = ends_so task lawful files left old new status.Done o (answer tt) told is stand
exactly {C} task lawful files left old new status.Negative words answer told o is stand = ends_so task lawful files left old new status.Negative o (answer tt) told is stand
exactly {C} task lawful files left old new status.Refused words answer told o is stand = ends_so task lawful files left old new status.Refused o (answer tt) told is stand
exactly {C} task lawful files left old new status.Stopped words answer told o is stand = ends_so task lawful files left old new status.Stopped o (answer tt) told is stand
exactly {C} task lawful files left old new status.Fault words answer told o is stand = inr (inl refl)
exactly {C} task lawful files left old new status.Memory words answer told o is stand = inr (inr refl)
exactly {C} task lawful files left old new status.Words words answer told o is stand = absurd (words refl)

completely : {C : Type 0} (task : Task C) → IsLawful task → (files left : Option Files) (old new : Option (List ℕ)) (ended : Status) → ended ≢ status.Words → ended ≢ status.Fault →
    (IsAnswered ended → PutsAnswer task files left old new ended) → BreakNoRule task files →
    (ended ≡ status.Done) ⊎ (ended ≡ status.Negative) ⊎ (ended ≡ status.Memory) ⊎ ((ended ≡ status.Stopped) × task.has_budget)
completely {C} task lawful files left old new status.Done words fault answer none = inl refl
completely {C} task lawful files left old new status.Negative words fault answer none = inr (inl refl)
completely {C} task lawful files left old new status.Memory words fault answer none = inr (inr (inl refl))
completely {C} task lawful files left old new status.Stopped words fault answer none =
    let puts = answer tt in
    inr (inr (inr (refl, lawful.stopped puts.answers.bytes puts.outcome puts.answers.answer (sym puts.status_is))))
completely {C} task lawful files left old new status.Refused words fault answer none =
    let puts = answer tt in
    absurd (none.unbroken puts.outcome puts.answers (sym puts.status_is))
completely {C} task lawful files left old new status.Fault words fault answer none = absurd (fault refl)
completely {C} task lawful files left old new status.Words words fault answer none = absurd (words refl)

performs : {C : Type 0} (task : Task C) → IsLawful task → (before after : ShelfState) (old new : SinkState) (ended : Status) → ended ≢ status.Words →
    (IsAnswered ended → PutsAnswer task before.files after.files old.written new.written ended) → PutsPart task before.files after.files old.written new.written →
    (ended ≡ status.Fault → HasFaultCause task before after old new) → (ended ≡ status.Memory → IsCutOff task before.files after.files old new) → Performs task before after old new ended
performs {C} task lawful before after old new ended words answer part fault memory = record {
  answer = answer;
  part = part;
  exact = exactly task lawful before.files after.files old.written new.written ended words answer;
  fault = fault;
  memory = memory;
  complete = λ none cause. completely task lawful before.files after.files old.written new.written ended words (λ is. cause (fault is)) answer none;
}

-- ---- an outcome that was found on a shelf whose files and counts stayed

leaves_since : (ws : List Written) (old later new : Option Files) → later ≡ old → Leaves ws later new → Leaves ws old new
leaves_since ws old later new same leaves = subst (λ (files : Option Files). Leaves ws files new) same leaves

fails_since : (ws : List Written) (before later after : ShelfState) → later.files ≡ before.files → CountsStay before later → FailsWriting ws later after → FailsWriting ws before after
fails_since ws before later after same stays fails = record {
  first = fails.first;
  write = fails.write;
  rest = fails.rest;
  are = fails.are;
  written = fails.written;
  others = subst (λ (files : Option Files). KeepsAllBut (fails.first ++ fails.write ∷ []) files after.files) same fails.others;
  failed = (subst (λ (n : ℕ). Rose n (after.failed_writes fails.write.name)) (stays.writes fails.write.name) fails.failed.0, fails.failed.1);
}

comes_since : (o : Outcome) (old later new : Option Files) → later ≡ old → ComesToPut o later new → ComesToPut o old new
comes_since o old later new same comes = subst (λ (files : Option Files). ComesToPut o files new) same comes

fault_since : (o : Outcome) (before later after : ShelfState) (old new : SinkState) → later.files ≡ before.files → CountsStay before later → FailsToAnswer o later after old new → FailsToAnswer o before after old new
fault_since o before later after old new same stays (inl (fails, unput)) = inl (fails_since o.writes before later after same stays fails, unput)
fault_since o before later after old new same stays (inr (comes, rose)) = inr (comes_since o before.files later.files after.files same comes, rose)

stops_since : (o : Outcome) (files later left : Option Files) (old new : SinkState) → later ≡ files → StopsToAnswer o later left old new → StopsToAnswer o files left old new
stops_since o files later left old new same stops = subst (λ (fs : Option Files). StopsToAnswer o fs left old new) same stops

part_since : (o : Outcome) (files later left : Option Files) (old new : Option (List ℕ)) → later ≡ files → PutsPartOf o later left old new → PutsPartOf o files left old new
part_since o files later left old new same part = subst (λ (fs : Option Files). PutsPartOf o fs left old new) same part

pub performs_concluded : {C : Type 0} (task : Task C) → IsLawful task → (before later after : ShelfState) (old new : SinkState) (o : Outcome) (ended : Status) → Answers task before.files o
    → later.files ≡ before.files → CountsStay before later → ended ≢ status.Words → Concludes o later after old new ended → Performs task before after old new ended
performs_concluded {C} task lawful before later after old new o ended is same stays words concludes =
    performs task lawful before after old new ended words
    (λ answered. record {
      outcome = o;
      answers = is;
      status_is = concludes.status_is answered;
      written = leaves_since o.writes before.files later.files after.files same (concludes.written answered);
      put = concludes.put answered;
    })
    (inr (o, is, part_since o before.files later.files after.files old.written new.written same concludes.part))
    (λ fault. inr (inl (o, is, fault_since o before later after old new same stays (concludes.fault fault))))
    (λ memory. inr (inl (o, is, stops_since o before.files later.files after.files old new same (concludes.memory memory))))

-- a file couldn't be read, or one can't be written
pub performs_fault : {C : Type 0} (task : Task C) → IsLawful task → (before after : ShelfState) (old : SinkState) → FailsToSeek task before after → after.files ≡ before.files → Performs task before after old old status.Fault
performs_fault {C} task lawful before after old fails same =
    performs task lawful before after old old status.Fault (λ is. cc) (λ none. absurd none) (inl refl) (λ is. inl (fails, same, refl)) (λ is. cc)

-- memory was refused before an answer was found
pub performs_nothing : {C : Type 0} (task : Task C) → IsLawful task → (before after : ShelfState) (old : SinkState) → after.files ≡ before.files → Performs task before after old old status.Memory
performs_nothing {C} task lawful before after old same =
    performs task lawful before after old old status.Memory (λ is. cc) (λ none. absurd none) (inl refl) (λ is. cc) (λ is. inl (same, refl))

-- ---- where files are written before an answer is sought

-- an answer without a text is put without a call of the output
some_text : (o : Outcome) (old new : SinkState) (ended : Status) → IsAnswered o.status → (o.text ≡ [] → (ended ≡ o.status) × (new ≡ old)) → (IsAnswered ended → ⊥) → o.text ≢ []
some_text o old new ended answered empty hindered none = hindered (subst (λ (s : Status). IsAnswered s) (sym (empty none).0) answered)

-- the files of an answer were written, and its text was put, or why it was not
concludes_put : (o : Outcome) (before after : ShelfState) (old new : SinkState) (ended : Status) → IsAnswered o.status → Leaves o.writes before.files after.files
    → (IsAnswered ended → (ended ≡ o.status) × Adds old.written new.written o.text) → AddsPrefix old.written new.written o.text
    → (ended ≡ status.Fault → Rose old.faults new.faults) → (o.text ≡ [] → (ended ≡ o.status) × (new ≡ old)) → Concludes o before after old new ended
concludes_put o before after old new ended answered leaves answer part fault empty = record {
  status_is = λ is. (answer is).0;
  written = λ is. leaves;
  put = λ is. (answer is).1;
  part = inr (leaves, part);
  fault = λ is. inr (record { written = leaves; some = some_text o old new ended answered empty (subst (λ (s : Status). IsAnswered s) is) }, fault is);
  memory = λ is. inr (record { written = leaves; some = some_text o old new ended answered empty (subst (λ (s : Status). IsAnswered s) is) });
}

pub performs_put : {C : Type 0} (task : Task C) → IsLawful task → (before after : ShelfState) (old new : SinkState) (o : Outcome) (ended : Status) → Answers task before.files o → IsAnswered o.status
    → Leaves o.writes before.files after.files → ended ≢ status.Words → (IsAnswered ended → (ended ≡ o.status) × Adds old.written new.written o.text)
    → AddsPrefix old.written new.written o.text → (ended ≡ status.Fault → Rose old.faults new.faults) → (o.text ≡ [] → (ended ≡ o.status) × (new ≡ old))
    → Performs task before after old new ended
performs_put {C} task lawful before after old new o ended is answered leaves words answer part fault empty =
    performs_concluded task lawful before before after old new o ended is refl (nothing_fails before) words
    (concludes_put o before after old new ended answered leaves answer part fault empty)

-- one of these files couldn't be written
pub performs_unwritten : {C : Type 0} (task : Task C) → IsLawful task → (before after : ShelfState) (old : SinkState) (ws : List Written) → task.writes_first ws → FailsWriting ws before after → Performs task before after old old status.Fault
performs_unwritten {C} task lawful before after old ws first fails =
    performs task lawful before after old old status.Fault (λ is. cc) (λ none. absurd none) (inl refl) (λ is. inr (inr (ws, first, fails, refl))) (λ is. cc)

-- they were written, and memory was refused before an answer was found
pub performs_unsought : {C : Type 0} (task : Task C) → IsLawful task → (before after : ShelfState) (old : SinkState) (ws : List Written) → task.writes_first ws → Leaves ws before.files after.files → Performs task before after old old status.Memory
performs_unsought {C} task lawful before after old ws first leaves =
    performs task lawful before after old old status.Memory (λ is. cc) (λ none. absurd none) (inl refl) (λ is. cc) (λ is. inr (inr (ws, first, leaves, refl)))

-- ---- over files and an output that never fail

pub never_rose : Rose 0 0 → ⊥
never_rose rose = let one : 1 ≤ 0 = rose in omega (arith, one)

answers_surely : (o : Outcome) (files left : Files) (old new : List ℕ) → FailsToAnswer o (without_faults files) (without_faults left) (sure_output old) (sure_output new) → ⊥
answers_surely o files left old new (inl (fails, unput)) = never_rose fails.failed.0
answers_surely o files left old new (inr (comes, rose)) = never_rose rose

pub never_fails : {C : Type 0} (task : Task C) (files left : Files) (old new : List ℕ) → HasFaultCause task (without_faults files) (without_faults left) (sure_output old) (sure_output new) → ⊥
never_fails {C} task files left old new (inl (inl fails, same, unput)) = never_rose fails.failed.0
never_fails {C} task files left old new (inl (inr fails, same, unput)) = never_rose fails.failed.0
never_fails {C} task files left old new (inr (inl (o, is, fails))) = answers_surely o files left old new fails
never_fails {C} task files left old new (inr (inr (ws, first, fails, unput))) = never_rose fails.failed.0
