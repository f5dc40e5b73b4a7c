-- What `check-bound` answers to the bytes of its instance and of its proof.
use Rattle.std.specs.Prelude.{◌≡◌, ◌≢◌, ◌⊎◌, ℕ, List, [], ◌∷◌, Option, None, Some, Err}
use Rattle.command_line.specs.Words.{BoundCheckJob}
use Rattle.ev_model.specs.Network.{Network}
use Rattle.near_proof.specs.Accepted.{IsAccepted}
use Rattle.near_proof.specs.Truth.{IsTrue}
use Rattle.near_proof.specs.Verdicts.{IsVerdict}
use Rattle.near_proof.specs.declared.proof.NearProof.{NearProof}
use Rattle.near_proof.specs.declared.verdict.NearVerdict.{NearVerdict}
use Rattle.near_proof.specs.declared.verdict.NearVerdict.TheVariants as verdict
use Rattle.near_text.specs.NearIn.{near_in}
use Rattle.near_text.specs.VerdictText.{near_verdict_text}
use Rattle.refusal_lines.specs.RefusalText.{IsRule, refusal_text}
use Rattle.refusal_lines.specs.declared.refusal.Refusal.{Refusal}
use Rattle.refusal_lines.specs.declared.refusal.Refusal.TheVariants as refusal
use Rattle.job_frame.specs.Caps.{certificate_read, file_read}
use Rattle.fleet_steps.specs.FleetNetwork.{HasFleetNetwork, IsFleetRefused}
use Rattle.near_steps.specs.NearFile.{HasNear}
use Rattle.evroute_causes.specs.Heard.{HearsRefusal}
use Rattle.job_frame.specs.Task.{Outcome, Task}
use Rattle.evroute_causes.specs.declared.cause.Cause.{Cause}
use Rattle.evroute_causes.specs.declared.cause.Cause.TheVariants as cause
use Rattle.job_frame.specs.declared.status.Status.{Status}
use Rattle.job_frame.specs.declared.status.Status.TheVariants as status

-- no rule of a text is broken: what the two files hold
pub record HoldsNear (limit : Option ℕ) (bytes cert_bytes : List ℕ) : Type 0 where
  pub network : Network
  pub fleet : HasFleetNetwork limit bytes network
  pub proof : NearProof
  pub has : HasNear network cert_bytes proof

-- the first broken rule: of the instance, the limit, the count of customers, and then of the
-- proof's text
abbrev pub IsCheckBoundRefused : Option ℕ → List ℕ → List ℕ → Refusal → Type 0
IsCheckBoundRefused limit bytes cert_bytes (refusal.Certificate fault) =
    (g : Network) × HasFleetNetwork limit bytes g × (near_in g cert_bytes ≡ Err fault)
IsCheckBoundRefused limit bytes cert_bytes other = IsFleetRefused limit bytes other

-- The proof is accepted, and its bound is put, or that it has none. It is true, whoever wrote it:
-- no fleet plan costs less than its bound, in any fraction of a unit, and where it has none there
-- is no fleet plan; and no single price can be raised by one.
pub record PutsAcceptedBound (limit : Option ℕ) (bytes cert_bytes text : List ℕ) : Type 0 where
  pub files : HoldsNear limit bytes cert_bytes
  pub accepted : IsAccepted files.network files.proof
  pub shows : IsTrue files.network files.proof
  pub text_is : text
      ≡ near_verdict_text files.network.denominator files.proof.bound verdict.Accepted

-- the first rule that the proof breaks is put
pub record PutsRejectedBound (limit : Option ℕ) (bytes cert_bytes text : List ℕ) : Type 0 where
  pub files : HoldsNear limit bytes cert_bytes
  pub found : NearVerdict
  pub broken : found ≢ verdict.Accepted
  pub rejected : IsVerdict files.network files.proof found
  pub text_is : text ≡ near_verdict_text files.network.denominator files.proof.bound found

-- the first broken rule of the instance, the words or the proof's text is put
pub record PutsCheckBoundRefusal (limit : Option ℕ) (bytes cert_bytes text : List ℕ) : Type 0 where
  pub refusal : Refusal
  pub rule : IsRule refusal
  pub refused : IsCheckBoundRefused limit bytes cert_bytes refusal
  pub text_is : text ≡ refusal_text refusal

-- the text that belongs to a status
abbrev pub CheckBoundAnswers : Option ℕ → List ℕ → List ℕ → Status → List ℕ → Type 0
CheckBoundAnswers limit bytes cert_bytes status.Done text =
    PutsAcceptedBound limit bytes cert_bytes text
CheckBoundAnswers limit bytes cert_bytes status.Negative text =
    PutsRejectedBound limit bytes cert_bytes text
CheckBoundAnswers limit bytes cert_bytes status.Refused text =
    PutsCheckBoundRefusal limit bytes cert_bytes text
CheckBoundAnswers limit bytes cert_bytes other text = ⊥

-- the status of a verdict
abbrev pub verdict_status : NearVerdict → Status
verdict_status verdict.Accepted = status.Done
verdict_status other = status.Negative

-- and its cause: the rule that is broken, where one is
abbrev pub verdict_cause : NearVerdict → Option Cause
verdict_cause verdict.Accepted = None
verdict_cause other = Some (cause.Near other)

-- the line of what the judge finds is put, and its cause is heard
pub record HearsNearVerdict
    (answered : Status) (text : List ℕ) (heard : Option Cause) : Type 0 where
  pub denominator : ℕ
  pub bound : Option ℕ
  pub found : NearVerdict
  pub status_is : answered ≡ verdict_status found
  pub text_is : text ≡ near_verdict_text denominator bound found
  pub heard_is : heard ≡ verdict_cause found

-- what is heard of an answer
abbrev pub check_bound_heard : Status → List ℕ → Option Cause → Type 0
check_bound_heard answered text heard =
    HearsRefusal answered text heard ⊎ HearsNearVerdict answered text heard

-- `check-bound` reads two files, and writes none
abbrev pub check_bound_answers : BoundCheckJob → List (List ℕ) → Outcome → Type 0
check_bound_answers job (bytes ∷ cert_bytes ∷ []) o =
    CheckBoundAnswers job.limit bytes cert_bytes o.status o.text × (o.writes ≡ [])
check_bound_answers job other o = ⊥

-- it comes to its proof where no rule of its instance is broken
abbrev pub check_bound_goes_on : BoundCheckJob → List (List ℕ) → Type 0
check_bound_goes_on job [] = Unit {0}
check_bound_goes_on job (bytes ∷ []) = (g : Network) × HasFleetNetwork job.limit bytes g
check_bound_goes_on job other = ⊥

abbrev pub check_bound_task : BoundCheckJob → Task Cause
check_bound_task job = record {
  reads = file_read job.file ∷ certificate_read job.cert ∷ [];
  goes_on = check_bound_goes_on job;
  answers = check_bound_answers job;
  heard = check_bound_heard;
  asks = λ name. ⊥;
  writes_first = λ ws. ⊥;
  is_open = ⊥;
  has_budget = ⊥;
}
