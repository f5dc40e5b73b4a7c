-- What is heard of an answer that was made, by its status, its text and its cause.
use Rattle.std.proofs.Common.{◌≡◌, ◌⊎◌, ℕ, List, Option, None, Some, Result, Ok, Err, IfOk, inl, inr, refl}
use Rattle.evroute_causes.proofs.Hearing.{HearsOf, HearsOfFound, search_is_heard}
use Rattle.evroute_causes.specs.Heard.{cause_beside}
use Rattle.evroute_causes.specs.declared.cause.Cause.{Cause}
use Rattle.job_frame.specs.declared.found.Answer.{Answer}
use Rattle.job_frame.specs.declared.found.Found.{Found}
use Rattle.job_frame.specs.declared.status.Status.{Status}
use Rattle.job_frame.specs.declared.status.Status.TheVariants as status
use Rattle.mixed_run.specs.CheckMixedAnswer.{check_mixed_heard, judged_cause, judged_status, judgement_text}
use Rattle.mixed_run.specs.KindFiles.{HearsMixedRefusal, mixed_cause, mixed_refusal_text}
use Rattle.mixed_run.specs.MixedAnswer.{mixed_heard, mixed_status}
use Rattle.mixed_run.specs.declared.judging.MixedJudgement.{MixedJudgement}
use Rattle.mixed_run.specs.declared.refusal.MixedRefusal.{MixedRefusal}

-- the line of a refusal, whatever else may be heard of the job
pub refusal_is_heard : {E : Type 0} (Else : Status → List ℕ → Option Cause → Type 0) (r : MixedRefusal) (made : Result (Answer Cause) E) → IfOk made (λ a. a.status ≡ status.Refused)
    → IfOk made (λ a. a.text.items ≡ mixed_refusal_text r) → IfOk made (λ a. a.cause ≡ Some (mixed_cause r)) → IfOk made (λ a. HearsOf HearsMixedRefusal a ⊎ HearsOf Else a)
refusal_is_heard {E} Else r (Err e) answered text heard = tt
refusal_is_heard {E} Else r (Ok a) answered text heard = inl (record { refusal = r; status_is = answered; text_is = text; heard_is = heard })

-- the same as all that a job finds
pub refused_job_is_heard : {E : Type 0} (Else : Status → List ℕ → Option Cause → Type 0) (r : MixedRefusal) (made : Result (Found Cause) E) → IfOk made (λ f. f.answer.status ≡ status.Refused)
    → IfOk made (λ f. f.answer.text.items ≡ mixed_refusal_text r) → IfOk made (λ f. f.answer.cause ≡ Some (mixed_cause r)) → IfOk made (λ f. HearsOfFound HearsMixedRefusal f ⊎ HearsOfFound Else f)
refused_job_is_heard {E} Else r (Err e) answered text heard = tt
refused_job_is_heard {E} Else r (Ok f) answered text heard = inl (record { refusal = r; status_is = answered; text_is = text; heard_is = heard })

-- what the judges find
pub judgement_is_heard : {E : Type 0} (denominator : ℕ) (found : MixedJudgement) (made : Result (Answer Cause) E) → IfOk made (λ a. a.status ≡ judged_status found)
    → IfOk made (λ a. a.text.items ≡ judgement_text denominator found) → IfOk made (λ a. a.cause ≡ judged_cause found) → IfOk made (HearsOf check_mixed_heard)
judgement_is_heard {E} denominator found (Err e) answered text heard = tt
judgement_is_heard {E} denominator found (Ok a) answered text heard =
    inr (record { denominator = denominator; found = found; status_is = answered; text_is = text; heard_is = heard })

-- what a search finds
pub found_is_heard : (bound : Option ℕ) (a : Answer Cause) → a.status ≡ mixed_status bound → a.cause ≡ cause_beside bound → HearsOf mixed_heard a
found_is_heard None a answered heard = inr (search_is_heard None status.Done a (λ is. cc) refl answered heard)
found_is_heard (Some bound) a answered heard = inr (search_is_heard (Some bound) status.Done a (λ is. cc) refl answered heard)
