-- What `check-mixed` answers to the bytes of its instances, of its plan file and of its proof.
use Rattle.std.specs.Prelude.{◌≡◌, ◌≢◌, ℕ, ◌⊎◌, ◌<◌, List, [], ◌∷◌, ◌++◌, Option, None, Some, Ok, Err, length}
use Rattle.ev_model.specs.Network.{Network}
use Rattle.certificate_parts.specs.declared.cert_text.CertText.{CertText}
use Rattle.job_frame.specs.Task.{Outcome, Read, Task}
use Rattle.evroute_causes.specs.declared.cause.Cause.{Cause}
use Rattle.evroute_causes.specs.declared.cause.Cause.TheVariants as cause
use Rattle.job_frame.specs.declared.status.Status.{Status}
use Rattle.job_frame.specs.declared.status.Status.TheVariants as status
use Rattle.job_frame.specs.Caps.{certificate_read, file_read}
use Rattle.mixed_model.specs.Accepted.{IsMixedAccepted}
use Rattle.mixed_model.specs.Kinds.{first_of}
use Rattle.mixed_model.specs.Meaning.{kind_plans}
use Rattle.mixed_model.specs.Plans.{IsMixedPlan, mixed_cost}
use Rattle.mixed_model.specs.Truth.{IsTrueProof}
use Rattle.mixed_model.specs.Verdicts.{IsVerdict}
use Rattle.mixed_model.specs.declared.proof.MixedProof.{MixedProof}
use Rattle.mixed_model.specs.declared.proof.MixedRoute.{MixedRoute}
use Rattle.mixed_model.specs.declared.verdict.MixedVerdict.TheVariants as verdict
use Rattle.mixed_model.specs.MixedReading.{mixed_plan_in}
use Rattle.mixed_model.specs.MixedRules.{IsFirstBroken}
use Rattle.mixed_model.specs.MixedTexts.{SpellsMixedPlan}
use Rattle.mixed_text.specs.MixedIn.{IsSpelledBy, mixed_in}
use Rattle.mixed_text.specs.VerdictText.{mixed_verdict_text}
use Rattle.mixed_text.specs.Written.{written_mixed}
use Rattle.plan_check.specs.declared.fault.PlanFault.{PlanFault}
use Rattle.plan_writer.specs.CheckText.{check_text}
use Rattle.plan_writer.specs.declared.check.Judgement.TheVariants as plain
use Rattle.refusal_lines.specs.declared.refusal.Refusal.TheVariants as refusal
use Rattle.route_plan.specs.declared.text.plan_text.PlanText.{PlanText}
use Rattle.command_line.specs.Words.{MixedJob}
use Rattle.mixed_run.specs.KindFiles.{HasKinds, HaveNetworks, HearsMixedRefusal, IsKindsRefused, IsMixedRule, kind_reads, mixed_refusal_text}
use Rattle.mixed_run.specs.declared.judging.MixedJudgement.{MixedJudgement}
use Rattle.mixed_run.specs.declared.judging.MixedJudgement.TheVariants as judgement
use Rattle.mixed_run.specs.declared.refusal.MixedRefusal.{MixedRefusal}
use Rattle.mixed_run.specs.declared.refusal.MixedRefusal.TheVariants.{Plain}

-- ---- what the files hold

-- the files are those of kinds, and the plan file holds the plan or says that there is none
pub record HasPlan (limit : Option ℕ) (files : List (List ℕ)) (plan_bytes : List ℕ)
    (kinds : List Network) (plan : Option (List MixedRoute)) : Type 0 where
  pub has : HasKinds limit files kinds
  pub spelled : SpellsMixedPlan (length kinds) plan_bytes plan

-- the bytes are the text of the proof, and are read as it
pub record HasProof (kinds : List Network) (bytes : List ℕ) (p : MixedProof) : Type 0 where
  pub read : mixed_in kinds bytes ≡ Ok (written_mixed kinds p)
  pub spelled : IsSpelledBy kinds bytes p

-- no rule of a text is broken: what all files hold
pub record HoldsMixed (limit : Option ℕ) (files : List (List ℕ))
    (plan_bytes cert_bytes : List ℕ) : Type 0 where
  pub kinds : List Network
  pub plan : Option (List MixedRoute)
  pub has : HasPlan limit files plan_bytes kinds plan
  pub proof : MixedProof
  pub proof_is : HasProof kinds cert_bytes proof

-- ---- the first broken rule of a text

-- the files break no rule, and the plan's text does
pub record IsPlanRefused (limit : Option ℕ) (files : List (List ℕ)) (plan_bytes : List ℕ)
    (r : MixedRefusal) : Type 0 where
  pub kinds : List Network
  pub has : HasKinds limit files kinds
  pub fault : PlanText
  pub is : r ≡ Plain (refusal.Plan fault)
  pub first : mixed_plan_in (length kinds) plan_bytes ≡ Err fault

-- neither the files nor the plan's text break a rule, and the proof's text does
pub record IsProofRefused (limit : Option ℕ) (files : List (List ℕ))
    (plan_bytes cert_bytes : List ℕ) (r : MixedRefusal) : Type 0 where
  pub kinds : List Network
  pub plan : Option (List MixedRoute)
  pub has : HasPlan limit files plan_bytes kinds plan
  pub fault : CertText
  pub is : r ≡ Plain (refusal.Certificate fault)
  pub first : mixed_in kinds cert_bytes ≡ Err fault

-- the first broken rule: of the files, the plan's text, the proof's text
abbrev pub IsCheckMixedRefused : Option ℕ → List (List ℕ) → List ℕ → List ℕ → MixedRefusal →
    Type 0
IsCheckMixedRefused limit files plan_bytes cert_bytes r =
    IsKindsRefused limit files r ⊎ IsPlanRefused limit files plan_bytes r
    ⊎ IsProofRefused limit files plan_bytes cert_bytes r

-- ---- the judges

-- the plan file holds a plan of this cost, or says that there is none
abbrev pub IsValid : List Network → Option (List MixedRoute) → Option ℕ → Type 0
IsValid kinds None cost = cost ≡ None
IsValid kinds (Some plan) cost =
    IsMixedPlan kinds 1 (kind_plans plan) × (cost ≡ Some (mixed_cost kinds 1 (kind_plans plan)))

-- the plan file holds routes, and this is the first rule that they break
abbrev pub BreaksFirst : List Network → Option (List MixedRoute) → PlanFault → Type 0
BreaksFirst kinds None fault = ⊥
BreaksFirst kinds (Some plan) fault = IsFirstBroken kinds plan fault

-- the first broken rule of plan and proof, the plan's before the proof's
abbrev pub IsRejection : List Network → Option (List MixedRoute) → MixedProof → MixedJudgement →
    Type 0
IsRejection kinds plan p (judgement.Accepted cost bound) = ⊥
IsRejection kinds plan p (judgement.Plan fault) = BreaksFirst kinds plan fault
IsRejection kinds plan p (judgement.Proof found) =
    ((cost : Option ℕ) × IsValid kinds plan cost)
    × ((found ≢ verdict.Accepted) × IsVerdict kinds p found)

-- the lines of what is found, over the denominator of all kinds
abbrev pub judgement_text : ℕ → MixedJudgement → List ℕ
judgement_text denominator (judgement.Accepted cost bound) =
    check_text denominator (plain.Accepted cost bound)
judgement_text denominator (judgement.Plan fault) = check_text denominator (plain.Plan fault)
judgement_text denominator (judgement.Proof found) = mixed_verdict_text found

-- the status of what is found
abbrev pub judged_status : MixedJudgement → Status
judged_status (judgement.Accepted cost bound) = status.Done
judged_status found = status.Negative

-- and its cause: the rule that is broken, where one is
abbrev pub judged_cause : MixedJudgement → Option Cause
judged_cause (judgement.Accepted cost bound) = None
judged_cause (judgement.Plan fault) = Some (cause.Plan fault)
judged_cause (judgement.Proof found) = Some (cause.Mixed found)

-- ---- the answers

-- The plan is one of a fleet of these kinds, or the file says that there is none, and the proof is
-- accepted: cost, bound and gap are put. The proof tells the truth, whoever wrote it: no plan costs
-- less than its bound, in any fraction of a unit, and where it has none there is no plan; and by
-- its root of all fractional covers.
pub record PutsMixedAccepted (limit : Option ℕ) (files : List (List ℕ))
    (plan_bytes cert_bytes text : List ℕ) : Type 0 where
  pub holds : HoldsMixed limit files plan_bytes cert_bytes
  pub cost : Option ℕ
  pub valid : IsValid holds.kinds holds.plan cost
  pub accepted : IsMixedAccepted holds.kinds holds.proof
  pub shows : IsTrueProof holds.kinds holds.proof
  pub text_is : text ≡ judgement_text (first_of holds.kinds).denominator
      (judgement.Accepted cost holds.proof.bound)

-- the first broken rule of plan and proof is put
pub record PutsMixedRejected (limit : Option ℕ) (files : List (List ℕ))
    (plan_bytes cert_bytes text : List ℕ) : Type 0 where
  pub holds : HoldsMixed limit files plan_bytes cert_bytes
  pub found : MixedJudgement
  pub rejected : IsRejection holds.kinds holds.plan holds.proof found
  pub text_is : text ≡ judgement_text (first_of holds.kinds).denominator found

-- the first broken rule of the files, the plan's text or the proof's text is put
pub record PutsCheckMixedRefusal (limit : Option ℕ) (files : List (List ℕ))
    (plan_bytes cert_bytes text : List ℕ) : Type 0 where
  pub refusal : MixedRefusal
  pub rule : IsMixedRule refusal
  pub refused : IsCheckMixedRefused limit files plan_bytes cert_bytes refusal
  pub text_is : text ≡ mixed_refusal_text refusal

-- the text that belongs to a status
abbrev pub CheckMixedAnswers : Option ℕ → List (List ℕ) → List ℕ → List ℕ → Status → List ℕ →
    Type 0
CheckMixedAnswers limit files plan_bytes cert_bytes status.Done text =
    PutsMixedAccepted limit files plan_bytes cert_bytes text
CheckMixedAnswers limit files plan_bytes cert_bytes status.Negative text =
    PutsMixedRejected limit files plan_bytes cert_bytes text
CheckMixedAnswers limit files plan_bytes cert_bytes status.Refused text =
    PutsCheckMixedRefusal limit files plan_bytes cert_bytes text
CheckMixedAnswers limit files plan_bytes cert_bytes other text = ⊥

-- the lines of what the judges find are put, and its cause is heard
pub record HearsMixedJudgement
    (answered : Status) (text : List ℕ) (heard : Option Cause) : Type 0 where
  pub denominator : ℕ
  pub found : MixedJudgement
  pub status_is : answered ≡ judged_status found
  pub text_is : text ≡ judgement_text denominator found
  pub heard_is : heard ≡ judged_cause found

-- what is heard of an answer
abbrev pub check_mixed_heard : Status → List ℕ → Option Cause → Type 0
check_mixed_heard answered text heard =
    HearsMixedRefusal answered text heard ⊎ HearsMixedJudgement answered text heard

-- ---- the task

-- the bytes of the instances, of the plan file and of the proof are answered, and no file is
-- written
pub record AnswersCheckMixed (job : MixedJob) (bytes : List (List ℕ)) (o : Outcome) : Type 0 where
  pub files : List (List ℕ)
  pub plan_bytes : List ℕ
  pub cert_bytes : List ℕ
  pub are : bytes ≡ files ++ plan_bytes ∷ cert_bytes ∷ []
  pub answers : CheckMixedAnswers job.limit files plan_bytes cert_bytes o.status o.text
  pub none : o.writes ≡ []

-- so far instances were read, but not all: each takes the limit
pub record AmongFiles (job : MixedJob) (bytes : List (List ℕ)) : Type 0 where
  pub more : length bytes < length job.files
  pub kinds : List Network
  pub networks : HaveNetworks job.limit bytes kinds

-- all instances were read: they are those of kinds
pub record BehindFiles (job : MixedJob) (bytes : List (List ℕ)) : Type 0 where
  pub all : length bytes ≡ length job.files
  pub kinds : List Network
  pub has : HasKinds job.limit bytes kinds

-- the plan file was read behind them: it holds a plan, or says that there is none
pub record BehindPlan (job : MixedJob) (bytes : List (List ℕ)) : Type 0 where
  pub files : List (List ℕ)
  pub plan_bytes : List ℕ
  pub are : bytes ≡ files ++ plan_bytes ∷ []
  pub all : length files ≡ length job.files
  pub kinds : List Network
  pub plan : Option (List MixedRoute)
  pub has : HasPlan job.limit files plan_bytes kinds plan

abbrev pub check_mixed_reads : MixedJob → List Read
check_mixed_reads job =
    kind_reads job.files ++ file_read job.plan ∷ certificate_read job.cert ∷ []

abbrev pub check_mixed_task : MixedJob → Task Cause
check_mixed_task job = record {
  reads = check_mixed_reads job;
  goes_on = λ bytes. AmongFiles job bytes ⊎ BehindFiles job bytes ⊎ BehindPlan job bytes;
  answers = AnswersCheckMixed job;
  heard = check_mixed_heard;
  asks = λ name. ⊥;
  writes_first = λ ws. ⊥;
  is_open = ⊥;
  has_budget = ⊥;
}
