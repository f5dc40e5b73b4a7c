-- What `improve` answers to the bytes of its instance and of its plan file.
use Rattle.std.specs.Prelude.{◌≡◌, ℕ, ◌⊎◌, List, [], ◌∷◌, Option, None, Some}
use Rattle.command_line.specs.Words.{ImproveJob}
use Rattle.ev_model.specs.Fleet.{cost_of}
use Rattle.ev_model.specs.Network.{Network}
use Rattle.plan_check.specs.FleetRules.{stops_of}
use Rattle.plan_check.specs.declared.fault.PlanFault.{PlanFault}
use Rattle.plan_writer.specs.CheckText.{check_text}
use Rattle.refusal_lines.specs.RefusalText.{IsRule, refusal_text}
use Rattle.plan_writer.specs.declared.check.Judgement.TheVariants as judgement
use Rattle.refusal_lines.specs.declared.refusal.Refusal.{Refusal}
use Rattle.route_improve.specs.Improved.{CostsNoMore, IsFirstAlone, IsImproved}
use Rattle.route_improve.specs.ImprovedText.{alone_text, improved_text}
use Rattle.route_plan.specs.PlanTexts.{fleet_plan_text}
use Rattle.route_plan.specs.declared.plan.FleetPlan.{FleetPlan}
use Rattle.job_frame.specs.Caps.{file_read}
use Rattle.fleet_steps.specs.PlanFile.{BreaksFirst, HoldsPlan, IsReadBack, IsTextRefused, IsValid, routes_of}
use Rattle.job_frame.specs.LimitedNetwork.{HasNetwork}
use Rattle.evroute_causes.specs.Heard.{HearsBrokenPlan}
use Rattle.evroute_causes.specs.Heard.{HearsDone, HearsRefusal}
use Rattle.job_frame.specs.Task.{Outcome, Task}
use Rattle.job_frame.specs.Writes.{Written}
use Rattle.evroute_causes.specs.declared.cause.Cause.{Cause}
use Rattle.evroute_causes.specs.declared.cause.Cause.TheVariants as cause
use Rattle.job_frame.specs.declared.status.Status.{Status}
use Rattle.job_frame.specs.declared.status.Status.TheVariants as status

-- The plan file holds a fleet plan, or none. A fleet plan is written that costs no more, each of
-- whose routes is fastest for the order of its customers, and that no relocation and no exchange
-- makes cheaper, and which is read back; its cost and the one before are put.
pub record PutsImproved (limit : Option ℕ) (outfile bytes plan_bytes : List ℕ)
    (ws : List Written) (text : List ℕ) : Type 0 where
  pub files : HoldsPlan limit bytes plan_bytes
  pub was : Option ℕ
  pub valid : IsValid files.network files.plan was
  pub better : FleetPlan
  pub improved : IsImproved files.network better.routes
  pub cost : ℕ
  pub cost_is : cost ≡ cost_of files.network 1 (stops_of better.routes)
  pub no_more : CostsNoMore files.network (routes_of files.plan) cost
  pub again : IsReadBack (fleet_plan_text (Some better)) (Some better)
  pub written : ws ≡ record { name = outfile; bytes = fleet_plan_text (Some better) } ∷ []
  pub text_is : text ≡ improved_text files.network.denominator cost was

-- the first rule that the plan of the file breaks is put, and nothing is written
pub record PutsBrokenPlan (limit : Option ℕ) (bytes plan_bytes : List ℕ)
    (ws : List Written) (text : List ℕ) : Type 0 where
  pub files : HoldsPlan limit bytes plan_bytes
  pub fault : PlanFault
  pub broken : BreaksFirst files.network files.plan fault
  pub none : ws ≡ []
  pub text_is : text ≡ check_text files.network.denominator (judgement.Plan fault)

-- the file holds no plan, and the first customer whom no route of his own reaches is put, and
-- nothing is written
pub record PutsAlone (limit : Option ℕ) (bytes plan_bytes : List ℕ)
    (ws : List Written) (text : List ℕ) : Type 0 where
  pub files : HoldsPlan limit bytes plan_bytes
  pub no_plan : files.plan ≡ None
  pub node : ℕ
  pub alone : IsFirstAlone files.network node
  pub none : ws ≡ []
  pub text_is : text ≡ alone_text node

-- the first broken rule of the instance, the limit or the plan's text is put, and nothing is
-- written
pub record PutsImproveRefusal (limit : Option ℕ) (bytes plan_bytes : List ℕ)
    (ws : List Written) (text : List ℕ) : Type 0 where
  pub refusal : Refusal
  pub rule : IsRule refusal
  pub refused : IsTextRefused limit bytes plan_bytes refusal
  pub none : ws ≡ []
  pub text_is : text ≡ refusal_text refusal

-- the files and the text that belong to a status
abbrev pub ImproveAnswers : Option ℕ → List ℕ → List ℕ → List ℕ →
    Status → List Written → List ℕ → Type 0
ImproveAnswers limit outfile bytes plan_bytes status.Done ws text =
    PutsImproved limit outfile bytes plan_bytes ws text
ImproveAnswers limit outfile bytes plan_bytes status.Negative ws text =
    PutsBrokenPlan limit bytes plan_bytes ws text ⊎ PutsAlone limit bytes plan_bytes ws text
ImproveAnswers limit outfile bytes plan_bytes status.Refused ws text =
    PutsImproveRefusal limit bytes plan_bytes ws text
ImproveAnswers limit outfile bytes plan_bytes other ws text = ⊥

-- the line of a customer out of reach is put, and the customer is heard
pub record HearsAlone (answered : Status) (text : List ℕ) (heard : Option Cause) : Type 0 where
  pub node : ℕ
  pub status_is : answered ≡ status.Negative
  pub text_is : text ≡ alone_text node
  pub heard_is : heard ≡ Some (cause.Alone node)

-- what is heard of an answer
abbrev pub improve_heard : Status → List ℕ → Option Cause → Type 0
improve_heard answered text heard =
    HearsRefusal answered text heard ⊎ HearsBrokenPlan answered text heard
    ⊎ HearsAlone answered text heard ⊎ HearsDone answered text heard

-- `improve` reads two files
abbrev pub improve_answers : ImproveJob → List (List ℕ) → Outcome → Type 0
improve_answers job (bytes ∷ plan_bytes ∷ []) o =
    ImproveAnswers job.limit job.outfile bytes plan_bytes o.status o.writes o.text
improve_answers job other o = ⊥

-- it comes to its plan where no rule of its instance is broken
abbrev pub improve_goes_on : ImproveJob → List (List ℕ) → Type 0
improve_goes_on job [] = Unit {0}
improve_goes_on job (bytes ∷ []) = (g : Network) × HasNetwork job.limit bytes g
improve_goes_on job other = ⊥

abbrev pub improve_task : ImproveJob → Task Cause
improve_task job = record {
  reads = file_read job.file ∷ file_read job.plan ∷ [];
  goes_on = improve_goes_on job;
  answers = improve_answers job;
  heard = improve_heard;
  asks = λ name. ⊥;
  writes_first = λ ws. ⊥;
  is_open = ⊥;
  has_budget = ⊥;
}
