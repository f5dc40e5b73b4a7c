-- What `check-route` answers to the bytes of its instance and of its proof.
use Rattle.std.specs.Prelude.{◌≡◌, ◌≢◌, ◌⊎◌, ℕ, List, [], ◌∷◌, Option, None, Some, Ok, Err}
use Rattle.command_line.specs.Words.{ProofJob}
use Rattle.command_line.specs.declared.Options.{Options}
use Rattle.ev_model.specs.Network.{Network}
use Rattle.ev_model.specs.Time.{time_of}
use Rattle.refusal_lines.specs.RefusalText.{IsRule, refusal_text}
use Rattle.refusal_lines.specs.declared.refusal.Refusal.{Refusal}
use Rattle.refusal_lines.specs.declared.refusal.Refusal.TheVariants as refusal
use Rattle.route_proof.specs.ProofIn.{SpellsProof, proof_in}
use Rattle.route_proof.specs.VerdictText.{verdict_text}
use Rattle.route_plan.specs.declared.plan.RoutePlan.{RoutePlan}
use Rattle.route_proof.specs.Closed.{IsAccepted, IsTrue}
use Rattle.route_proof.specs.Verdicts.{IsVerdict}
use Rattle.route_proof.specs.declared.proof.RouteProof.{RouteProof}
use Rattle.route_proof.specs.declared.verdict.RouteVerdict.{RouteVerdict}
use Rattle.route_proof.specs.declared.verdict.RouteVerdict.TheVariants as verdict
use Rattle.route_steps.specs.Trips.{Journey}
use Rattle.job_frame.specs.Caps.{certificate_read, file_read}
use Rattle.evroute_run.specs.FixedAnswer.{IsRefused, IsTask, start_of}
use Rattle.evroute_causes.specs.Heard.{HearsDone, HearsRefusal}
use Rattle.job_frame.specs.Task.{Outcome, Task}
use Rattle.evroute_causes.specs.declared.cause.Cause.{Cause}
use Rattle.evroute_causes.specs.declared.cause.Cause.TheVariants as cause
use Rattle.job_frame.specs.declared.status.Status.{Status}
use Rattle.job_frame.specs.declared.status.Status.TheVariants as status

-- the journey of the words on a network
abbrev pub journey_of : Options → Network → List ℕ → Journey
journey_of options g route =
    record { network = g; route = route; start = start_of g options.charge }

-- the time of the plan that a proof lists, where it lists one
abbrev pub listed_time : Network → ℕ → Option RoutePlan → Option ℕ
listed_time g start None = None
listed_time g start (Some plan) = Some (time_of g 1 start plan.stops)

-- no rule of a text is broken: what the two files and the word of the route hold
pub record HoldsProof (options : Options) (word bytes cert_bytes : List ℕ) : Type 0 where
  pub network : Network
  pub route : List ℕ
  pub task : IsTask options word bytes network route
  pub proof : RouteProof
  pub read : proof_in network route cert_bytes ≡ Ok proof
  pub spelled : SpellsProof network route cert_bytes proof

-- the first broken rule: those of `fixed`, and then of the proof's text
abbrev pub IsCheckRouteRefused : Options → List ℕ → List ℕ → List ℕ → Refusal → Type 0
IsCheckRouteRefused options word bytes cert_bytes (refusal.Certificate fault) =
    (g : Network) × (route : List ℕ) × IsTask options word bytes g route
    × (proof_in g route cert_bytes ≡ Err fault)
IsCheckRouteRefused options word bytes cert_bytes other = IsRefused options word bytes other

-- The proof is accepted, and the time of its plan is put, or that no plan is feasible. It is true,
-- whoever wrote it: the plan is a fastest one of the route, or no plan of it is feasible, in any
-- fraction of a unit.
pub record PutsAcceptedProof (options : Options)
    (word bytes cert_bytes text : List ℕ) : Type 0 where
  pub files : HoldsProof options word bytes cert_bytes
  pub accepted : IsAccepted (journey_of options files.network files.route) files.proof
  pub shows : IsTrue (journey_of options files.network files.route) files.proof.plan
  pub text_is : text ≡ verdict_text files.network.denominator
      (listed_time files.network (start_of files.network options.charge) files.proof.plan)
      verdict.Accepted

-- the first rule that the proof breaks is put
pub record PutsRejectedProof (options : Options)
    (word bytes cert_bytes text : List ℕ) : Type 0 where
  pub files : HoldsProof options word bytes cert_bytes
  pub found : RouteVerdict
  pub broken : found ≢ verdict.Accepted
  pub rejected : IsVerdict (journey_of options files.network files.route) files.proof found
  pub text_is : text ≡ verdict_text files.network.denominator None found

-- the first broken rule of the instance, the words or the proof's text is put
pub record PutsCheckRouteRefusal (options : Options)
    (word bytes cert_bytes text : List ℕ) : Type 0 where
  pub refusal : Refusal
  pub rule : IsRule refusal
  pub refused : IsCheckRouteRefused options word bytes cert_bytes refusal
  pub text_is : text ≡ refusal_text refusal

-- the text that belongs to a status
abbrev pub CheckRouteAnswers : Options → List ℕ → List ℕ → List ℕ → Status → List ℕ → Type 0
CheckRouteAnswers options word bytes cert_bytes status.Done text =
    PutsAcceptedProof options word bytes cert_bytes text
CheckRouteAnswers options word bytes cert_bytes status.Negative text =
    PutsRejectedProof options word bytes cert_bytes text
CheckRouteAnswers options word bytes cert_bytes status.Refused text =
    PutsCheckRouteRefusal options word bytes cert_bytes text
CheckRouteAnswers options word bytes cert_bytes other text = ⊥

-- the line of a rule that a proof breaks is put, and the rule is heard
pub record HearsBrokenProof
    (answered : Status) (text : List ℕ) (heard : Option Cause) : Type 0 where
  pub denominator : ℕ
  pub found : RouteVerdict
  pub broken : found ≢ verdict.Accepted
  pub status_is : answered ≡ status.Negative
  pub text_is : text ≡ verdict_text denominator None found
  pub heard_is : heard ≡ Some (cause.Route found)

-- what is heard of an answer
abbrev pub check_route_heard : Status → List ℕ → Option Cause → Type 0
check_route_heard answered text heard =
    HearsRefusal answered text heard ⊎ HearsBrokenProof answered text heard
    ⊎ HearsDone answered text heard

-- `check-route` reads two files, and writes none
abbrev pub check_route_answers : ProofJob → List (List ℕ) → Outcome → Type 0
check_route_answers job (bytes ∷ cert_bytes ∷ []) o =
    CheckRouteAnswers job.options job.route bytes cert_bytes o.status o.text × (o.writes ≡ [])
check_route_answers job other o = ⊥

-- it comes to its proof where no rule of `fixed` is broken
abbrev pub check_route_goes_on : ProofJob → List (List ℕ) → Type 0
check_route_goes_on job [] = Unit {0}
check_route_goes_on job (bytes ∷ []) =
    (g : Network) × ((route : List ℕ) × IsTask job.options job.route bytes g route)
check_route_goes_on job other = ⊥

abbrev pub check_route_task : ProofJob → Task Cause
check_route_task job = record {
  reads = file_read job.file ∷ certificate_read job.cert ∷ [];
  goes_on = check_route_goes_on job;
  answers = check_route_answers job;
  heard = check_route_heard;
  asks = λ name. ⊥;
  writes_first = λ ws. ⊥;
  is_open = ⊥;
  has_budget = ⊥;
}
