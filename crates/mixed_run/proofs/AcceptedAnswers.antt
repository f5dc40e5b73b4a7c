-- What is judged and reported as an answer of `check-mixed`.
use Rattle.std.proofs.Common.{◌≡◌, ℕ, ◌*◌, ◌≤◌, List, Option, None, Some, Result, Ok, Err, IfOk, ap, arith, inr, inl, length, subst, sym}
use Rattle.std.proofs.lemmas.Option.{same_Some}
use Rattle.ev_model.specs.Network.{Network}
use Rattle.job_frame.proofs.Endings.{rule_of}
use Rattle.job_frame.specs.declared.found.Answer.{Answer}
use Rattle.job_frame.specs.declared.status.Status.{Status}
use Rattle.job_frame.specs.declared.status.Status.TheVariants as status
use Rattle.job_frame.specs.Ended.{IsRuleOrMemory}
use Rattle.job_frame.specs.declared.answer.Ended.{Ended}
use Rattle.job_frame.specs.declared.answer.Ended.TheVariants.{Refused}
use Rattle.mixed_model.specs.Kinds.{first_of}
use Rattle.mixed_model.specs.Meaning.{kind_plans}
use Rattle.mixed_model.specs.Plans.{mixed_cost}
use Rattle.mixed_model.specs.Truth.{IsTrueBound}
use Rattle.mixed_model.specs.declared.proof.MixedProof.{MixedProof}
use Rattle.mixed_model.specs.declared.proof.MixedRoute.{MixedRoute}
use Rattle.mixed_run.specs.CheckMixedAnswer.{CheckMixedAnswers, HasPlan, HasProof, HoldsMixed, IsCheckMixedRefused, IsValid, judged_status, judgement_text}
use Rattle.mixed_run.specs.Judged.{IsJudgementOf, IsPlanEnded, IsProofEnded}
use Rattle.mixed_run.specs.KindFiles.{HasKinds}
use Rattle.mixed_run.specs.declared.judging.MixedJudgement.{MixedJudgement}
use Rattle.mixed_run.specs.declared.judging.MixedJudgement.TheVariants as judgement
use Rattle.mixed_run.specs.declared.refusal.MixedRefusal.TheVariants.{Plain}
use Rattle.refusal_lines.specs.RefusalText.{refusal_text}
use Rattle.refusal_lines.specs.declared.refusal.Refusal.{Refusal}
use Rattle.report_lines.specs.Lines.{IsBoundOf}
use Rattle.evroute_causes.specs.declared.cause.Cause.{Cause}

-- ---- the bound

pub is_bound_of_cost : (kinds : List Network) (plan : Option (List MixedRoute)) (cost bound : Option ℕ) → IsValid kinds plan cost → IsTrueBound kinds bound → IsBoundOf cost bound
is_bound_of_cost kinds None None bound valid truth = tt
is_bound_of_cost kinds None (Some c) bound valid truth = absurd (cc)
is_bound_of_cost kinds (Some p) None bound valid truth = tt
is_bound_of_cost kinds (Some p) (Some c) None valid truth = tt
is_bound_of_cost kinds (Some p) (Some c) (Some b) valid truth =
    let le : 1 * b ≤ mixed_cost kinds 1 (kind_plans p) = truth 1 (kind_plans p) valid.0 in
    let same : c ≡ mixed_cost kinds 1 (kind_plans p) = same_Some c (mixed_cost kinds 1 (kind_plans p)) valid.1 in
    omega (arith, le, same)

-- ---- refusals of texts

pub plan_refused : (limit : Option ℕ) (files : List (List ℕ)) (kinds : List Network) (count : ℕ) (plan_bytes given : List ℕ) (ended : Ended) (r : Refusal) → HasKinds limit files kinds →
    count ≡ length kinds → given ≡ plan_bytes → ended ≡ Refused r → IsPlanEnded count given ended → (cert_bytes : List ℕ) → IsCheckMixedRefused limit files plan_bytes cert_bytes (Plain r)
plan_refused limit files kinds count plan_bytes given ended r has many same is refused cert_bytes =
    let first = subst (λ (e : Ended). IsPlanEnded (length kinds) plan_bytes e) is
    (subst (λ (n : ℕ). IsPlanEnded n plan_bytes ended) many (subst (λ (bs : List ℕ). IsPlanEnded count bs ended) same refused)) in
    inr (inl (record { kinds = kinds; has = has; fault = first.0; is = ap (λ (x : Refusal). Plain x) first.1; first = first.2 }))

pub refused_answers : {E : Type 0} (limit : Option ℕ) (files : List (List ℕ)) (kinds : List Network) (plan : Option (List MixedRoute)) (plan_bytes cert_bytes : List ℕ) (ended : Ended) (r : Refusal) (made : Result (Answer Cause) E) →
    HasPlan limit files plan_bytes kinds plan → ended ≡ Refused r → IsRuleOrMemory ended → IsProofEnded kinds cert_bytes ended
    → IfOk made (λ a. a.status ≡ status.Refused) → IfOk made (λ a. a.text.items ≡ refusal_text r)
    → IfOk made (λ a. CheckMixedAnswers limit files plan_bytes cert_bytes a.status a.text.items)
refused_answers limit files kinds plan plan_bytes cert_bytes ended r (Err none) has is rule refused answered text = tt
refused_answers limit files kinds plan plan_bytes cert_bytes ended r (Ok a) has is rule refused answered text =
    let first = subst (λ (e : Ended). IsProofEnded kinds cert_bytes e) is refused in
    let cause : IsCheckMixedRefused limit files plan_bytes cert_bytes (Plain r) =
    inr (inr (record { kinds = kinds; plan = plan; has = has; fault = first.0; is = ap (λ (x : Refusal). Plain x) first.1; first = first.2 })) in
    subst (λ (s : Status). CheckMixedAnswers limit files plan_bytes cert_bytes s a.text.items) (sym answered)
    (record { refusal = Plain r; rule = rule_of ended r is rule; refused = cause; text_is = text })

-- ---- the report

pub report_answers : {E : Type 0} (limit : Option ℕ) (files : List (List ℕ)) (plan_bytes cert_bytes : List ℕ)
    (kinds : List Network) (first : Network) (plan : Option (List MixedRoute)) (p : MixedProof) (found : MixedJudgement) (made : Result (Answer Cause) E) → first_of kinds ≡ first →
    HasPlan limit files plan_bytes kinds plan → HasProof kinds cert_bytes p → IsJudgementOf kinds plan p found
    → IfOk made (λ a. a.status ≡ judged_status found) → IfOk made (λ a. a.text.items ≡ judgement_text first.denominator found)
    → IfOk made (λ a. CheckMixedAnswers limit files plan_bytes cert_bytes a.status a.text.items)
report_answers limit files plan_bytes cert_bytes kinds first plan p found (Err none) one has read judged answered text = tt
report_answers limit files plan_bytes cert_bytes kinds first plan p found (Ok a) one has read judged answered text =
    subst (λ (s : Status). CheckMixedAnswers limit files plan_bytes cert_bytes s a.text.items) (sym answered)
    (by found judged (subst (λ (g : Network). a.text.items ≡ judgement_text g.denominator found) (sym one) text))
  where
    holds : HoldsMixed limit files plan_bytes cert_bytes
    holds = record { kinds = kinds; plan = plan; has = has; proof = p; proof_is = read }

    by : (found : MixedJudgement) → IsJudgementOf kinds plan p found → a.text.items ≡ judgement_text (first_of kinds).denominator found
        → CheckMixedAnswers limit files plan_bytes cert_bytes (judged_status found) a.text.items
    by (judgement.Accepted cost bound) (valid, accepted, shows, bound_is) text = record {
      holds = holds;
      cost = cost;
      valid = valid;
      accepted = accepted;
      shows = shows;
      text_is = subst (λ (b : Option ℕ). a.text.items ≡ judgement_text (first_of kinds).denominator (judgement.Accepted cost b)) bound_is text;
    }
    by (judgement.Plan fault) rejected text = record { holds = holds; found = judgement.Plan fault; rejected = rejected; text_is = text }
    by (judgement.Proof verdict) rejected text = record { holds = holds; found = judgement.Proof verdict; rejected = rejected; text_is = text }
