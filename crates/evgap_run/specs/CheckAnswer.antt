-- What `check` answers to the bytes of its instance, of its plan file and of its proof.
use Rattle.std.specs.Prelude.{◌≡◌, ℕ, ◌⊎◌, false, List, [], ◌∷◌, Option}
use Rattle.ev_model.specs.Network.{Network}
use Rattle.fleet_steps.specs.PlanFile.{BreaksFirst, HasPlan, IsTextRefused, IsValid}
use Rattle.gap_words.specs.Words.{CheckGap}
use Rattle.evgap_run.specs.Judged.{HearsJudgement}
use Rattle.evgap_run.specs.Heard.{HearsRefusal}
use Rattle.job_frame.specs.LimitedNetwork.{HasNetwork}
use Rattle.job_frame.specs.Task.{Outcome, Task}
use Rattle.evgap_run.specs.declared.cause.Cause.{Cause}
use Rattle.job_frame.specs.declared.status.Status.{Status}
use Rattle.job_frame.specs.declared.status.Status.TheVariants as status
use Rattle.job_frame.specs.Caps.{certificate_read, file_read}
use Rattle.plan_check.specs.declared.fault.PlanFault.{PlanFault}
use Rattle.refusal_lines.specs.RejectedText.{rejected_text}
use Rattle.refusal_lines.specs.RefusalText.{IsRule, refusal_text}
use Rattle.refusal_lines.specs.declared.refusal.Refusal.{Refusal}
use Rattle.refusal_lines.specs.declared.refusal.Refusal.TheVariants as refusal
use Rattle.route_plan.specs.declared.plan.FleetPlan.{FleetPlan}
use Rattle.tree_text.specs.BoundProofs.{IsAcceptedProof, IsTrueProof, bound_of}
use Rattle.tree_text.specs.BoundTexts.{HasProof, IsUnread}
use Rattle.tree_text.specs.BoundVerdicts.{IsBoundVerdict, bound_verdict_text, is_accepted}
use Rattle.tree_text.specs.declared.bounds.judging.BoundVerdict.{BoundVerdict}
use Rattle.tree_text.specs.declared.bounds.proof.BoundProof.{BoundProof}
use Rattle.tree_text.specs.declared.bounds.reading.BoundText.{BoundText}
use Rattle.tree_text.specs.declared.bounds.reading.BoundText.TheVariants as text
use Rattle.evgap_run.specs.Report.{accepted_text}

-- no rule of a text is broken: what the three files hold
pub record Holds (limit : Option ℕ) (bytes plan_bytes proof_bytes : List ℕ) : Type 0 where
  pub network : Network
  pub plan : Option FleetPlan
  pub fleet : HasPlan limit bytes plan_bytes network plan
  pub proof : BoundProof
  pub has : HasProof network proof_bytes proof

-- the instance and the plan's text are some, and the proof's is none, by this fault
abbrev pub IsNoProof : Option ℕ → List ℕ → List ℕ → List ℕ → BoundText → Type 0
IsNoProof limit bytes plan_bytes proof_bytes fault =
    (g : Network) × (plan : Option FleetPlan) × HasPlan limit bytes plan_bytes g plan
    × IsUnread g proof_bytes fault

-- the first broken rule: of the instance, the limit, then of the plan's text, then of the proof's:
-- whether there are too many customers for a near proof, and the text itself
abbrev pub IsCheckRefused : Option ℕ → List ℕ → List ℕ → List ℕ → Refusal → Type 0
IsCheckRefused limit bytes plan_bytes proof_bytes (refusal.Customers count) =
    IsNoProof limit bytes plan_bytes proof_bytes (text.Customers count)
IsCheckRefused limit bytes plan_bytes proof_bytes (refusal.Certificate fault) =
    IsNoProof limit bytes plan_bytes proof_bytes (text.Text fault)
IsCheckRefused limit bytes plan_bytes proof_bytes other = IsTextRefused limit bytes plan_bytes other

-- The plan is a fleet plan, or there is none, and the proof, of either kind, is accepted; cost,
-- bound and gap are put. The proof is true, whoever wrote it: no fleet plan costs less than its
-- bound, in any fraction of a unit, and where it has none there is no fleet plan.
pub record PutsAccepted (limit : Option ℕ)
    (bytes plan_bytes proof_bytes text : List ℕ) : Type 0 where
  pub files : Holds limit bytes plan_bytes proof_bytes
  pub cost : Option ℕ
  pub valid : IsValid files.network files.plan cost
  pub accepted : IsAcceptedProof files.network files.proof
  pub shows : IsTrueProof files.network files.proof
  pub text_is : text ≡ accepted_text files.network.denominator cost (bound_of files.proof)

-- the first rule that the plan breaks is put
pub record PutsBrokenPlan (limit : Option ℕ)
    (bytes plan_bytes proof_bytes text : List ℕ) : Type 0 where
  pub files : Holds limit bytes plan_bytes proof_bytes
  pub fault : PlanFault
  pub broken : BreaksFirst files.network files.plan fault
  pub text_is : text ≡ rejected_text fault

-- the plan breaks none, and the first rule that the proof breaks is put
pub record PutsBrokenProof (limit : Option ℕ)
    (bytes plan_bytes proof_bytes text : List ℕ) : Type 0 where
  pub files : Holds limit bytes plan_bytes proof_bytes
  pub cost : Option ℕ
  pub valid : IsValid files.network files.plan cost
  pub found : BoundVerdict
  pub broken : is_accepted found ≡ false
  pub rejected : IsBoundVerdict files.network files.proof found
  pub text_is : text ≡ bound_verdict_text files.network.denominator (bound_of files.proof) found

-- the first broken rule of the instance, the words, the plan's text or the proof's is put
pub record PutsCheckRefusal (limit : Option ℕ)
    (bytes plan_bytes proof_bytes text : List ℕ) : Type 0 where
  pub refusal : Refusal
  pub rule : IsRule refusal
  pub refused : IsCheckRefused limit bytes plan_bytes proof_bytes refusal
  pub text_is : text ≡ refusal_text refusal

-- the text that belongs to a status
abbrev pub CheckAnswers : Option ℕ → List ℕ → List ℕ → List ℕ → Status → List ℕ → Type 0
CheckAnswers limit bytes plan_bytes proof_bytes status.Done text =
    PutsAccepted limit bytes plan_bytes proof_bytes text
CheckAnswers limit bytes plan_bytes proof_bytes status.Negative text =
    PutsBrokenPlan limit bytes plan_bytes proof_bytes text
    ⊎ PutsBrokenProof limit bytes plan_bytes proof_bytes text
CheckAnswers limit bytes plan_bytes proof_bytes status.Refused text =
    PutsCheckRefusal limit bytes plan_bytes proof_bytes text
CheckAnswers limit bytes plan_bytes proof_bytes other text = ⊥

-- what is heard of an answer
abbrev pub check_heard : Status → List ℕ → Option Cause → Type 0
check_heard answered text heard =
    HearsRefusal answered text heard ⊎ HearsJudgement answered text heard

-- `check` reads three files, and writes none
abbrev pub check_answers : CheckGap → List (List ℕ) → Outcome → Type 0
check_answers job (bytes ∷ plan_bytes ∷ proof_bytes ∷ []) o =
    CheckAnswers job.limit bytes plan_bytes proof_bytes o.status o.text × (o.writes ≡ [])
check_answers job other o = ⊥

-- it comes to its plan where no rule of its instance is broken, and to its proof where none of its
-- plan's text is either
abbrev pub check_goes_on : CheckGap → List (List ℕ) → Type 0
check_goes_on job [] = Unit {0}
check_goes_on job (bytes ∷ []) = (g : Network) × HasNetwork job.limit bytes g
check_goes_on job (bytes ∷ plan_bytes ∷ []) =
    (g : Network) × ((plan : Option FleetPlan) × HasPlan job.limit bytes plan_bytes g plan)
check_goes_on job other = ⊥

abbrev pub check_task : CheckGap → Task Cause
check_task job = record {
  reads = file_read job.file ∷ file_read job.plan ∷ certificate_read job.proof ∷ [];
  goes_on = check_goes_on job;
  answers = check_answers job;
  heard = check_heard;
  asks = λ name. ⊥;
  writes_first = λ ws. ⊥;
  is_open = ⊥;
  has_budget = ⊥;
}
