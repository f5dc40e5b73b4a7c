-- The line of a refusal as an answer of `check`, and of the commands that read an instance for a fleet alone.
use Rattle.std.proofs.Common.{◌≡◌, ℕ, List, [], Option, Result, Ok, Err, IfOk, refl, subst, sym}
use Rattle.evroute_run.specs.CheckAnswer.{CheckAnswers, IsCheckRefused}
use Rattle.evroute_run.specs.Ended.{IsCheckEnded}
use Rattle.fleet_steps.specs.FleetNetwork.{IsFleetEnded}
use Rattle.evroute_run.specs.FleetRefusal.{PutsFleetRefusal}
use Rattle.job_frame.specs.declared.found.Answer.{Answer}
use Rattle.job_frame.specs.declared.answer.Ended.{Ended}
use Rattle.job_frame.specs.declared.answer.Ended.TheVariants.{Refused}
use Rattle.job_frame.specs.declared.status.Status.{Status}
use Rattle.job_frame.specs.declared.status.Status.TheVariants as status
use Rattle.refusal_lines.specs.RefusalText.{IsRule, refusal_text}
use Rattle.refusal_lines.specs.declared.refusal.Refusal.{Refusal}
use Rattle.evroute_causes.specs.declared.cause.Cause.{Cause}

pub refused_answers : {E : Type 0} (limit : Option ℕ) (file plan_bytes cert_bytes : List ℕ) (ended : Ended) (refusal : Refusal) (made : Result (Answer Cause) E) →
    ended ≡ Refused refusal → IsCheckEnded limit file plan_bytes cert_bytes ended
    → IfOk made (λ a. a.status ≡ status.Refused) → IfOk made (λ a. a.text.items ≡ refusal_text refusal)
    → IfOk made (λ a. CheckAnswers limit file plan_bytes cert_bytes a.status a.text.items)
refused_answers limit file plan_bytes cert_bytes ended refusal (Err none) is refused answered text = tt
refused_answers limit file plan_bytes cert_bytes ended refusal (Ok a) is refused answered text =
    let first : IsRule refusal × IsCheckRefused limit file plan_bytes cert_bytes refusal = subst (λ (e : Ended). IsCheckEnded limit file plan_bytes cert_bytes e) is refused in
    subst (λ (s : Status). CheckAnswers limit file plan_bytes cert_bytes s a.text.items) (sym answered) (record { refusal = refusal; rule = first.0; refused = first.1; text_is = text })

-- the first broken rule of the instance, the limit or the count of customers, before anything is written
pub puts_fleet_refusal : (limit : Option ℕ) (bytes given : List ℕ) (ended : Ended) (refusal : Refusal) → given ≡ bytes → ended ≡ Refused refusal → IsFleetEnded limit given ended
    → PutsFleetRefusal limit bytes [] (refusal_text refusal)
puts_fleet_refusal limit bytes given ended refusal same is refused =
    let first = subst (λ (e : Ended). IsFleetEnded limit bytes e) is (subst (λ (bs : List ℕ). IsFleetEnded limit bs ended) same refused) in
    record { refusal = refusal; rule = first.0; refused = first.1; none = refl; text_is = refl }
