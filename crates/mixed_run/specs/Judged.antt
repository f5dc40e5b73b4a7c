-- What the judges of a plan and of a proof find.
use Rattle.std.specs.Prelude.{◌≡◌, ◌≢◌, ◌<◌, ℕ, Err, IfSome, List, Option, length}
use Rattle.std.specs.List.{All}
use Rattle.ev_model.specs.Network.{Network}
use Rattle.job_frame.specs.declared.answer.Ended.{Ended}
use Rattle.job_frame.specs.declared.answer.Ended.TheVariants.{Refused, Memory}
use Rattle.certificate_parts.specs.declared.cert_text.CertText.{CertText}
use Rattle.mixed_model.specs.Accepted.{IsMixedAccepted}
use Rattle.mixed_model.specs.Truth.{IsTrueProof}
use Rattle.mixed_model.specs.declared.proof.MixedProof.{MixedProof}
use Rattle.mixed_model.specs.declared.proof.MixedRoute.{MixedRoute}
use Rattle.mixed_model.specs.declared.verdict.MixedVerdict.TheVariants as verdict
use Rattle.mixed_model.specs.MixedReading.{mixed_plan_in}
use Rattle.mixed_text.specs.MixedIn.{mixed_in}
use Rattle.refusal_lines.specs.declared.refusal.Refusal.TheVariants as refusal
use Rattle.route_plan.specs.declared.text.plan_text.PlanText.{PlanText}
use Rattle.report_lines.specs.Lines.{IsBoundOf}
use Rattle.mixed_run.specs.CheckMixedAnswer.{IsRejection, IsValid}
use Rattle.mixed_run.specs.declared.judging.MixedJudgement.{MixedJudgement}
use Rattle.mixed_run.specs.declared.judging.MixedJudgement.TheVariants as judgement

-- both are accepted, or the first broken rule is found
abbrev pub IsJudgementOf : List Network → Option (List MixedRoute) → MixedProof → MixedJudgement →
    Type 0
IsJudgementOf kinds plan p (judgement.Accepted cost bound) =
    IsValid kinds plan cost × IsMixedAccepted kinds p × IsTrueProof kinds p × (bound ≡ p.bound)
IsJudgementOf kinds plan p found = IsRejection kinds plan p found

-- what is accepted has no bound above its cost, and a broken rule of a proof is one
abbrev pub HasLines : MixedJudgement → Type 0
HasLines (judgement.Accepted cost bound) = IsBoundOf cost bound
HasLines (judgement.Plan fault) = Unit {0}
HasLines (judgement.Proof found) = found ≢ verdict.Accepted

-- a plan that is held has routes of the kinds that there are
abbrev pub AreKnown : List Network → Option (List MixedRoute) → Type 0
AreKnown kinds plan = IfSome plan (All (λ r. r.kind < length kinds))

-- the text of a plan for so many kinds breaks a rule, or memory was refused
abbrev pub IsPlanEnded : ℕ → List ℕ → Ended → Type 0
IsPlanEnded kinds bytes (Refused r) =
    (fault : PlanText) × (r ≡ refusal.Plan fault) × (mixed_plan_in kinds bytes ≡ Err fault)
IsPlanEnded kinds bytes Memory = Unit {0}

-- the same of the text of a proof
abbrev pub IsProofEnded : List Network → List ℕ → Ended → Type 0
IsProofEnded kinds bytes (Refused r) =
    (fault : CertText) × (r ≡ refusal.Certificate fault) × (mixed_in kinds bytes ≡ Err fault)
IsProofEnded kinds bytes Memory = Unit {0}
