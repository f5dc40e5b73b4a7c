-- What is heard of what was found, by its status, its text and its cause.
use Rattle.std.proofs.Common.{◌≡◌, ◌⊎◌, ℕ, None, Some, Result, Ok, Err, IfOk, inl, inr}
use Rattle.evview_run.specs.ViewAnswer.{HearsBrokenPlan, HearsNoPlaces, HearsNoRoute, HearsOtherTime, no_route_text, other_time_text, places_text, view_heard}
use Rattle.evview_run.specs.declared.cause.Cause.{Cause}
use Rattle.evview_run.specs.declared.cause.Cause.TheVariants as cause
use Rattle.job_frame.proofs.Hearing.{HearsOfFound, refused_job_is_heard}
use Rattle.job_frame.specs.Heard.{HearsDone}
use Rattle.job_frame.specs.declared.found.Found.{Found}
use Rattle.job_frame.specs.declared.status.Status.TheVariants as status
use Rattle.place_names.specs.declared.faults.PlacesFault.{PlacesFault}
use Rattle.plan_check.specs.declared.fault.PlanFault.{PlanFault}
use Rattle.refusal_lines.specs.RefusalText.{refusal_text}
use Rattle.refusal_lines.specs.RejectedText.{rejected_text}
use Rattle.refusal_lines.specs.declared.refusal.Refusal.{Refusal}

pub refusal_is_heard : {E : Type 0} (r : Refusal) (made : Result (Found Cause) E) → IfOk made (λ f. f.answer.status ≡ status.Refused) → IfOk made (λ f. f.answer.text.items ≡ refusal_text r)
    → IfOk made (λ f. f.answer.cause ≡ Some (cause.Refused r)) → IfOk made (HearsOfFound view_heard)
refusal_is_heard {E} r made answered text heard =
    refused_job_is_heard cause.Refused (λ s t h. HearsBrokenPlan s t h ⊎ HearsOtherTime s t h ⊎ HearsNoPlaces s t h ⊎ HearsNoRoute s t h ⊎ HearsDone s t h) r made answered text heard

pub broken_is_heard : {E : Type 0} (fault : PlanFault) (made : Result (Found Cause) E) → IfOk made (λ f. f.answer.status ≡ status.Negative) → IfOk made (λ f. f.answer.text.items ≡ rejected_text fault)
    → IfOk made (λ f. f.answer.cause ≡ Some (cause.Plan fault)) → IfOk made (HearsOfFound view_heard)
broken_is_heard {E} fault (Err e) answered text heard = tt
broken_is_heard {E} fault (Ok f) answered text heard = inr (inl (record { fault = fault; status_is = answered; text_is = text; heard_is = heard }))

pub other_time_is_heard : {E : Type 0} (denominator told : ℕ) (made : Result (Found Cause) E) → IfOk made (λ f. f.answer.status ≡ status.Negative) → IfOk made (λ f. f.answer.text.items ≡ other_time_text denominator told)
    → IfOk made (λ f. f.answer.cause ≡ Some (cause.Time told)) → IfOk made (HearsOfFound view_heard)
other_time_is_heard {E} denominator told (Err e) answered text heard = tt
other_time_is_heard {E} denominator told (Ok f) answered text heard = inr (inr (inl (record { denominator = denominator; told = told; status_is = answered; text_is = text; heard_is = heard })))

pub no_route_is_heard : {E : Type 0} (number : ℕ) (made : Result (Found Cause) E) → IfOk made (λ f. f.answer.status ≡ status.Refused) → IfOk made (λ f. f.answer.text.items ≡ no_route_text number)
    → IfOk made (λ f. f.answer.cause ≡ Some (cause.Number number)) → IfOk made (HearsOfFound view_heard)
no_route_is_heard {E} number (Err e) answered text heard = tt
no_route_is_heard {E} number (Ok f) answered text heard = inr (inr (inr (inr (inl (record { number = number; status_is = answered; text_is = text; heard_is = heard })))))

pub no_places_are_heard : {E : Type 0} (fault : PlacesFault) (made : Result (Found Cause) E) → IfOk made (λ f. f.answer.status ≡ status.Refused) → IfOk made (λ f. f.answer.text.items ≡ places_text fault)
    → IfOk made (λ f. f.answer.cause ≡ Some (cause.Places fault)) → IfOk made (HearsOfFound view_heard)
no_places_are_heard {E} fault (Err e) answered text heard = tt
no_places_are_heard {E} fault (Ok f) answered text heard = inr (inr (inr (inl (record { fault = fault; status_is = answered; text_is = text; heard_is = heard }))))

pub done_is_heard : {E : Type 0} (made : Result (Found Cause) E) → IfOk made (λ f. f.answer.status ≡ status.Done) → IfOk made (λ f. f.answer.cause ≡ None) → IfOk made (HearsOfFound view_heard)
done_is_heard {E} (Err e) answered heard = tt
done_is_heard {E} (Ok f) answered heard = inr (inr (inr (inr (inr (answered, heard)))))
