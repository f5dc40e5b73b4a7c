-- What is heard of a plan that breaks a rule, by the status, the text and the cause.
use Rattle.std.proofs.Common.{◌≡◌, ℕ, Some, Result, Ok, Err, IfOk}
use Rattle.fleet_steps.specs.Heard.{HearsBrokenPlan}
use Rattle.job_frame.proofs.Hearing.{HearsOfFound}
use Rattle.job_frame.specs.declared.found.Found.{Found}
use Rattle.job_frame.specs.declared.status.Status.TheVariants as status
use Rattle.plan_check.specs.declared.fault.PlanFault.{PlanFault}
use Rattle.refusal_lines.specs.RejectedText.{rejected_text}

pub broken_plan_is_heard : {C E : Type 0} (broken : PlanFault → C) (fault : PlanFault) (made : Result (Found C) E) → IfOk made (λ f. f.answer.status ≡ status.Negative)
    → IfOk made (λ f. f.answer.text.items ≡ rejected_text fault) → IfOk made (λ f. f.answer.cause ≡ Some (broken fault)) → IfOk made (HearsOfFound (HearsBrokenPlan broken))
broken_plan_is_heard {C} {E} broken fault (Err e) answered text heard = tt
broken_plan_is_heard {C} {E} broken fault (Ok f) answered text heard = record { fault = fault; status_is = answered; text_is = text; heard_is = heard }
