-- What is heard of an answer of `evroute` that was made, by its status, its text and its cause.
use Rattle.std.proofs.Common.{◌≡◌, ◌≢◌, ◌⊎◌, ◌∙◌, ℕ, List, Option, None, Some, Result, Ok, Err, IfOk, ap, sym}
use Rattle.evroute_causes.specs.Heard.{HearsElse, HearsRefusal, cause_beside, search_cause}
use Rattle.evroute_causes.specs.declared.cause.Cause.{Cause}
use Rattle.evroute_causes.specs.declared.cause.Cause.TheVariants as cause
use Rattle.job_frame.proofs.Hearing as frame
use Rattle.job_frame.specs.declared.found.Answer.{Answer}
use Rattle.job_frame.specs.declared.found.Found.{Found}
use Rattle.job_frame.specs.declared.status.Status.{Status}
use Rattle.job_frame.specs.declared.status.Status.TheVariants as status
use Rattle.refusal_lines.specs.RefusalText.{refusal_text}
use Rattle.refusal_lines.specs.declared.refusal.Refusal.{Refusal}

-- this is heard of the answer
abbrev pub HearsOf : (Status → List ℕ → Option Cause → Type 0) → Answer Cause → Type 0
HearsOf Heard a = Heard a.status a.text.items a.cause

-- of the answer that was found
abbrev pub HearsOfFound : (Status → List ℕ → Option Cause → Type 0) → Found Cause → Type 0
HearsOfFound Heard f = HearsOf Heard f.answer

-- what is heard of the line of a refusal, whatever else may be heard of the job
pub its_rule : {Else : Type 0} (r : Refusal) → HearsRefusal status.Refused (refusal_text r) (Some (cause.Refused r)) ⊎ Else
its_rule {Else} r = frame.its_rule cause.Refused r

-- the line of a refusal that was made
pub refusal_is_heard : {E : Type 0} (Else : Status → List ℕ → Option Cause → Type 0) (r : Refusal) (made : Result (Answer Cause) E) → IfOk made (λ a. a.status ≡ status.Refused)
    → IfOk made (λ a. a.text.items ≡ refusal_text r) → IfOk made (λ a. a.cause ≡ Some (cause.Refused r)) → IfOk made (λ a. HearsOf HearsRefusal a ⊎ HearsOf Else a)
refusal_is_heard {E} Else r made answered text heard = frame.refusal_is_heard cause.Refused Else r made answered text heard

-- the same as all that a job finds
pub refused_job_is_heard : {E : Type 0} (Else : Status → List ℕ → Option Cause → Type 0) (r : Refusal) (made : Result (Found Cause) E) → IfOk made (λ f. f.answer.status ≡ status.Refused)
    → IfOk made (λ f. f.answer.text.items ≡ refusal_text r) → IfOk made (λ f. f.answer.cause ≡ Some (cause.Refused r)) → IfOk made (λ f. HearsOfFound HearsRefusal f ⊎ HearsOfFound Else f)
refused_job_is_heard {E} Else r made answered text heard = frame.refused_job_is_heard cause.Refused Else r made answered text heard

-- what was found tells what its answer does
pub found_is_heard : {E : Type 0} (Heard : Status → List ℕ → Option Cause → Type 0) (a : Answer Cause) (made : Result (Found Cause) E) → IfOk made (λ f. f.answer ≡ a) → HearsOf Heard a → IfOk made (HearsOfFound Heard)
found_is_heard {E} Heard a made same heard = frame.found_is_heard Heard a made same heard

-- ---- a search for a fleet

-- the status beside a bound: that there is no plan, or another one
abbrev pub status_beside : Status → Option ℕ → Status
status_beside plain None = status.Negative
status_beside plain (Some bound) = plain

-- a bound tells that there is no plan, and the status with it; or another status stands beside it
pub search_is_heard : (bound : Option ℕ) (plain : Status) (a : Answer Cause) → plain ≢ status.Refused → search_cause plain ≡ None → a.status ≡ status_beside plain bound → a.cause ≡ cause_beside bound
    → HearsOf (HearsElse search_cause) a
search_is_heard None plain a answered quiet status_is heard = ((λ is. cc), heard ∙ ap (λ (s : Status). search_cause s) (sym status_is))
search_is_heard (Some bound) plain a answered quiet status_is heard =
    ((λ is. answered (sym status_is ∙ is)), heard ∙ sym quiet ∙ ap (λ (s : Status). search_cause s) (sym status_is))
