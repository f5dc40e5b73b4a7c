-- What `check` answers to the bytes of its instance, of its plan file and of its certificate.
use Rattle.std.specs.Prelude.{◌≡◌, ◌≢◌, ◌⊎◌, ℕ, ◌<◌, List, [], ◌∷◌, Option, None, Some, Ok, Err}
use Rattle.std.specs.List.{All}
use Rattle.bound_certificate.specs.CertificateIn.{certificate_in}
use Rattle.bound_certificate.specs.Kept.{IsKept}
use Rattle.bound_certificate.specs.Ranges.{Fits, customer_count}
use Rattle.bound_certificate.specs.Written.{written}
use Rattle.bound_certificate.specs.declared.certificate.Certificate.{Certificate}
use Rattle.certificate_check.specs.Accepted.{IsAccepted}
use Rattle.certificate_check.specs.Truth.{IsTrueCertificate}
use Rattle.certificate_check.specs.Verdicts.{IsVerdict}
use Rattle.certificate_check.specs.declared.verdict.Verdict.TheVariants as verdict
use Rattle.command_line.specs.Words.{CheckJob}
use Rattle.ev_model.specs.Network.{Network}
use Rattle.instance_reader.specs.Faults.{IsFirstFault}
use Rattle.plan_writer.specs.CheckText.{check_text}
use Rattle.refusal_lines.specs.RefusalText.{IsRule, refusal_text}
use Rattle.plan_writer.specs.declared.check.Judgement.{Judgement}
use Rattle.plan_writer.specs.declared.check.Judgement.TheVariants as judgement
use Rattle.refusal_lines.specs.declared.refusal.Refusal.{Refusal}
use Rattle.refusal_lines.specs.declared.refusal.Refusal.TheVariants as refusal
use Rattle.route_plan.specs.PlanReading.{fleet_plan_in}
use Rattle.route_plan.specs.declared.plan.FleetPlan.{FleetPlan}
use Rattle.job_frame.specs.Caps.{certificate_read, file_read}
use Rattle.instance_reader.specs.Instance.{most_customers}
use Rattle.fleet_steps.specs.FleetNetwork.{HasFleetNetwork}
use Rattle.fleet_steps.specs.PlanFile.{BreaksFirst, HasFleet, IsValid}
use Rattle.job_frame.specs.LimitedNetwork.{HasNetwork, IsPastLimit}
use Rattle.evroute_causes.specs.Heard.{HearsRefusal}
use Rattle.job_frame.specs.Task.{Outcome, Task}
use Rattle.evroute_causes.specs.declared.cause.Cause.{Cause}
use Rattle.evroute_causes.specs.declared.cause.Cause.TheVariants as cause
use Rattle.job_frame.specs.declared.status.Status.{Status}
use Rattle.job_frame.specs.declared.status.Status.TheVariants as status

-- the bytes are the text of the certificate, which is in the ranges of the network
pub record IsCertificateOf (g : Network) (bytes : List ℕ) (c : Certificate) : Type 0 where
  pub read : certificate_in g bytes ≡ Ok (written g c)
  pub fits : Fits g c
  pub kept : All IsKept c.sections

-- the first broken rule: of the instance, the limit, the count of customers, the plan's text, the certificate's
abbrev pub IsCheckRefused : Option ℕ → List ℕ → List ℕ → List ℕ → Refusal → Type 0
IsCheckRefused limit bytes plan_bytes cert_bytes (refusal.Instance fault) = IsFirstFault bytes fault
IsCheckRefused limit bytes plan_bytes cert_bytes (refusal.Limit given) =
    IsPastLimit limit bytes given
IsCheckRefused limit bytes plan_bytes cert_bytes (refusal.Customers count) =
    (g : Network) × HasNetwork limit bytes g × (count ≡ customer_count g) × (most_customers < count)
IsCheckRefused limit bytes plan_bytes cert_bytes (refusal.Plan fault) =
    (g : Network) × HasFleetNetwork limit bytes g × (fleet_plan_in plan_bytes ≡ Err fault)
IsCheckRefused limit bytes plan_bytes cert_bytes (refusal.Certificate fault) =
    (g : Network) × (plan : Option FleetPlan) × HasFleet limit bytes plan_bytes g plan
    × (certificate_in g cert_bytes ≡ Err fault)
IsCheckRefused limit bytes plan_bytes cert_bytes other = ⊥

-- the first broken rule of plan and certificate, the plan's before the certificate's
abbrev pub IsRejection : Network → Option FleetPlan → Certificate → Judgement → Type 0
IsRejection g plan c (judgement.Accepted cost bound) = ⊥
IsRejection g plan c (judgement.Plan fault) = BreaksFirst g plan fault
IsRejection g plan c (judgement.Certificate found) =
    ((cost : Option ℕ) × IsValid g plan cost)
    × ((found ≢ verdict.Accepted) × IsVerdict g c found)

-- no rule of a text is broken: what the three files hold
pub record Holds (limit : Option ℕ) (bytes plan_bytes cert_bytes : List ℕ) : Type 0 where
  pub network : Network
  pub plan : Option FleetPlan
  pub fleet : HasFleet limit bytes plan_bytes network plan
  pub certificate : Certificate
  pub certificate_is : IsCertificateOf network cert_bytes certificate

-- The plan is valid and the certificate accepted, and cost, bound and gap are put. The certificate tells the truth, whoever
-- wrote it: no fleet plan costs less than its bound, in any fraction of a unit, and where it has none there is no fleet plan;
-- and by its root of all fractional covers.
pub record PutsAccepted (limit : Option ℕ)
    (bytes plan_bytes cert_bytes text : List ℕ) : Type 0 where
  pub files : Holds limit bytes plan_bytes cert_bytes
  pub cost : Option ℕ
  pub valid : IsValid files.network files.plan cost
  pub accepted : IsAccepted files.network files.certificate
  pub shows : IsTrueCertificate files.network files.certificate
  pub text_is : text
      ≡ check_text files.network.denominator (judgement.Accepted cost files.certificate.bound)

-- the first broken rule of plan and certificate is put
pub record PutsRejected (limit : Option ℕ)
    (bytes plan_bytes cert_bytes text : List ℕ) : Type 0 where
  pub files : Holds limit bytes plan_bytes cert_bytes
  pub found : Judgement
  pub rejected : IsRejection files.network files.plan files.certificate found
  pub text_is : text ≡ check_text files.network.denominator found

-- the first broken rule of the instance, the words, the plan's text or the certificate's is put
pub record PutsCheckRefusal (limit : Option ℕ)
    (bytes plan_bytes cert_bytes text : List ℕ) : Type 0 where
  pub refusal : Refusal
  pub rule : IsRule refusal
  pub refused : IsCheckRefused limit bytes plan_bytes cert_bytes refusal
  pub text_is : text ≡ refusal_text refusal

-- the text that belongs to a status
abbrev pub CheckAnswers : Option ℕ → List ℕ → List ℕ → List ℕ → Status → List ℕ → Type 0
CheckAnswers limit bytes plan_bytes cert_bytes status.Done text =
    PutsAccepted limit bytes plan_bytes cert_bytes text
CheckAnswers limit bytes plan_bytes cert_bytes status.Negative text =
    PutsRejected limit bytes plan_bytes cert_bytes text
CheckAnswers limit bytes plan_bytes cert_bytes status.Refused text =
    PutsCheckRefusal limit bytes plan_bytes cert_bytes text
CheckAnswers limit bytes plan_bytes cert_bytes other text = ⊥

-- the status of what is found
abbrev pub judged_status : Judgement → Status
judged_status (judgement.Accepted cost bound) = status.Done
judged_status found = status.Negative

-- and its cause: the rule that is broken, where one is
abbrev pub judged_cause : Judgement → Option Cause
judged_cause (judgement.Accepted cost bound) = None
judged_cause (judgement.Plan fault) = Some (cause.Plan fault)
judged_cause (judgement.Certificate found) = Some (cause.Certificate found)

-- the lines of what the judges find are put, and its cause is heard
pub record HearsJudgement
    (answered : Status) (text : List ℕ) (heard : Option Cause) : Type 0 where
  pub denominator : ℕ
  pub found : Judgement
  pub status_is : answered ≡ judged_status found
  pub text_is : text ≡ check_text denominator found
  pub heard_is : heard ≡ judged_cause found

-- what is heard of an answer
abbrev pub check_heard : Status → List ℕ → Option Cause → Type 0
check_heard answered text heard =
    HearsRefusal answered text heard ⊎ HearsJudgement answered text heard

-- `check` reads three files, and writes none
abbrev pub check_answers : CheckJob → List (List ℕ) → Outcome → Type 0
check_answers job (bytes ∷ plan_bytes ∷ cert_bytes ∷ []) o =
    CheckAnswers job.limit bytes plan_bytes cert_bytes o.status o.text × (o.writes ≡ [])
check_answers job other o = ⊥

-- it comes to its plan where no rule of its instance is broken, and to its certificate where none
-- of its plan's text is either
abbrev pub check_goes_on : CheckJob → List (List ℕ) → Type 0
check_goes_on job [] = Unit {0}
check_goes_on job (bytes ∷ []) = (g : Network) × HasFleetNetwork job.limit bytes g
check_goes_on job (bytes ∷ plan_bytes ∷ []) =
    (g : Network) × ((plan : Option FleetPlan) × HasFleet job.limit bytes plan_bytes g plan)
check_goes_on job other = ⊥

abbrev pub check_task : CheckJob → Task Cause
check_task job = record {
  reads = file_read job.file ∷ file_read job.plan ∷ certificate_read job.cert ∷ [];
  goes_on = check_goes_on job;
  answers = check_answers job;
  heard = check_heard;
  asks = λ name. ⊥;
  writes_first = λ ws. ⊥;
  is_open = ⊥;
  has_budget = ⊥;
}
