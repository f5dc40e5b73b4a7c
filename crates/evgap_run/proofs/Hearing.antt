-- What is heard of an answer that was made, by its status, its text and its cause.
use Rattle.std.proofs.Common.{◌≡◌, ℕ, Bool, Option, Result, Ok, Err, IfOk, inl, inr}
use Rattle.evgap_run.specs.CheckAnswer.{check_heard}
use Rattle.evgap_run.specs.Judged.{judged_cause, judged_status, judgement_text}
use Rattle.evgap_run.specs.PlanAnswer.{plan_heard}
use Rattle.evgap_run.specs.declared.judging.Judgement.{Judgement}
use Rattle.evgap_run.specs.Heard.{HearsBrokenPlan}
use Rattle.evgap_run.proofs.Refusals.{HearsOf, HearsOfFound}
use Rattle.job_frame.specs.declared.found.Answer.{Answer}
use Rattle.job_frame.specs.declared.found.Found.{Found}
use Rattle.evgap_run.specs.declared.cause.Cause.{Cause}

pub judgement_is_heard : {E : Type 0} (denominator : ℕ) (told : Option ℕ) (found : Judgement) (made : Result (Answer Cause) E) → IfOk made (λ a. a.status ≡ judged_status found)
    → IfOk made (λ a. a.text.items ≡ judgement_text denominator told found) → IfOk made (λ a. a.cause ≡ judged_cause found) → IfOk made (HearsOf check_heard)
judgement_is_heard {E} denominator told found (Err e) answered text heard = tt
judgement_is_heard {E} denominator told found (Ok a) answered text heard =
    inr (record { denominator = denominator; told = told; found = found; status_is = answered; text_is = text; heard_is = heard })

pub broken_is_heard : {E : Type 0} (may_end : Bool) (made : Result (Found Cause) E) → IfOk made (HearsOfFound HearsBrokenPlan) → IfOk made (HearsOfFound (plan_heard may_end))
broken_is_heard {E} may_end (Err e) heard = tt
broken_is_heard {E} may_end (Ok f) heard = inr (inl heard)
