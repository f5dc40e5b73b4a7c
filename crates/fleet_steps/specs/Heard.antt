-- What is heard of a plan that breaks a rule.
use Rattle.std.specs.Prelude.{◌≡◌, ℕ, List, Option, Some}
use Rattle.job_frame.specs.declared.status.Status.{Status}
use Rattle.job_frame.specs.declared.status.Status.TheVariants as status
use Rattle.plan_check.specs.declared.fault.PlanFault.{PlanFault}
use Rattle.refusal_lines.specs.RejectedText.{rejected_text}

-- the line of the rule is put, and the rule is heard, as a cause of this kind
pub record HearsBrokenPlan {C : Type 0} (broken : PlanFault → C)
    (answered : Status) (text : List ℕ) (heard : Option C) : Type 0 where
  pub fault : PlanFault
  pub status_is : answered ≡ status.Negative
  pub text_is : text ≡ rejected_text fault
  pub heard_is : heard ≡ Some (broken fault)
