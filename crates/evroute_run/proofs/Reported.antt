-- The report on a plan and a certificate as an answer of `check`.
use Rattle.std.proofs.Common.{◌≡◌, ℕ, List, Option, Result, Ok, Err, IfOk, subst, sym}
use Rattle.bound_certificate.specs.declared.certificate.Certificate.{Certificate}
use Rattle.ev_model.specs.Network.{Network}
use Rattle.evroute_run.specs.CheckAnswer.{CheckAnswers, Holds, IsCertificateOf, judged_status}
use Rattle.fleet_steps.specs.PlanFile.{HasFleet}
use Rattle.evroute_run.specs.Judged.{IsJudgementOf}
use Rattle.job_frame.specs.declared.found.Answer.{Answer}
use Rattle.job_frame.specs.declared.status.Status.{Status}
use Rattle.plan_writer.specs.CheckText.{check_text}
use Rattle.plan_writer.specs.declared.check.Judgement.{Judgement}
use Rattle.plan_writer.specs.declared.check.Judgement.TheVariants as judgement
use Rattle.route_plan.specs.declared.plan.FleetPlan.{FleetPlan}
use Rattle.evroute_causes.specs.declared.cause.Cause.{Cause}

pub report_answers : {E : Type 0} (limit : Option ℕ) (file plan_bytes bytes : List ℕ)
    (g : Network) (plan : Option FleetPlan) (cert : Certificate) (found : Judgement) (made : Result (Answer Cause) E) →
    HasFleet limit file plan_bytes g plan → IsCertificateOf g bytes cert → IsJudgementOf g plan cert found
    → IfOk made (λ a. a.status ≡ judged_status found) → IfOk made (λ a. a.text.items ≡ check_text g.denominator found)
    → IfOk made (λ a. CheckAnswers limit file plan_bytes bytes a.status a.text.items)
report_answers limit file plan_bytes bytes g plan cert found (Err none) fleet read judged answered text = tt
report_answers limit file plan_bytes bytes g plan cert found (Ok a) fleet read judged answered text =
    subst (λ (s : Status). CheckAnswers limit file plan_bytes bytes s a.text.items) (sym answered) (by found judged text)
  where
    files : Holds limit file plan_bytes bytes
    files = record { network = g; plan = plan; fleet = fleet; certificate = cert; certificate_is = read }

    by : (found : Judgement) → IsJudgementOf g plan cert found → a.text.items ≡ check_text g.denominator found
        → CheckAnswers limit file plan_bytes bytes (judged_status found) a.text.items
    by (judgement.Accepted cost bound) (valid, accepted, shows, bound_is) text = record {
      files = files;
      cost = cost;
      valid = valid;
      accepted = accepted;
      shows = shows;
      text_is = subst (λ (b : Option ℕ). a.text.items ≡ check_text g.denominator (judgement.Accepted cost b)) bound_is text;
    }
    by (judgement.Plan fault) rejected text = record { files = files; found = judgement.Plan fault; rejected = rejected; text_is = text }
    by (judgement.Certificate verdict) rejected text =
        record { files = files; found = judgement.Certificate verdict; rejected = rejected; text_is = text }
