-- What `prove` answers to the bytes of its file.
use Rattle.std.specs.Prelude.{◌≡◌, ℕ, ◌≤◌, List, [], ◌∷◌, Option, None, Some, length}
use Rattle.std.specs.List.{All}
use Rattle.certificate_parts.specs.Limits.{most_bytes}
use Rattle.command_line.specs.Words.{FixedJob, ProofJob, job_with}
use Rattle.command_line.specs.declared.Options.{Options}
use Rattle.ev_model.specs.Network.{Network}
use Rattle.ev_model.specs.Time.{time_of}
use Rattle.ev_model.specs.declared.Stop.{Stop}
use Rattle.report_lines.specs.FixedText.{fixed_text}
use Rattle.refusal_lines.specs.RefusalText.{IsRule, refusal_text}
use Rattle.refusal_lines.specs.declared.refusal.Refusal.{Refusal}
use Rattle.route_proof.specs.ProofTexts.{proof_text}
use Rattle.route_proof.specs.VerdictText.{verdict_text}
use Rattle.route_plan.specs.declared.plan.RoutePlan.{RoutePlan}
use Rattle.route_proof.specs.Closed.{IsAccepted, IsTrue}
use Rattle.route_proof.specs.Ranges.{ProofFits}
use Rattle.route_proof.specs.declared.proof.RouteProof.{RouteProof}
use Rattle.route_proof.specs.declared.verdict.RouteVerdict.TheVariants as verdict
use Rattle.job_frame.specs.Caps.{file_read}
use Rattle.evroute_run.specs.CheckRouteAnswer.{PutsAcceptedProof, journey_of, listed_time}
use Rattle.evroute_run.specs.FixedAnswer.{IsRefused, IsTask, start_of}
use Rattle.evroute_causes.specs.Heard.{HearsRefusals}
use Rattle.job_frame.specs.Task.{Outcome, Task}
use Rattle.job_frame.specs.Writes.{Written}
use Rattle.job_frame.specs.declared.status.Status.{Status}
use Rattle.job_frame.specs.declared.status.Status.TheVariants as status
use Rattle.evroute_causes.specs.declared.cause.Cause.{Cause}

-- the stops of the plan that a proof lists, with their time; none where it lists none
abbrev pub timed_plan : Network → ℕ → Option RoutePlan → Option (List Stop × ℕ)
timed_plan g start None = None
timed_plan g start (Some plan) = Some (plan.stops, time_of g 1 start plan.stops)

-- `fixed` has this status where it puts this plan, or that there is none
abbrev pub fixed_status : Option RoutePlan → Status
fixed_status None = status.Negative
fixed_status (Some plan) = status.Done

-- what is written, where it isn't more than is read, `check-route` accepts beside the same instance
-- and route, with the time of this plan
abbrev pub AcceptsProof : Options → List ℕ → List ℕ → Network → Option RoutePlan → Written → Type 0
AcceptsProof options word bytes g plan w =
    length w.bytes ≤ most_bytes → PutsAcceptedProof options word bytes w.bytes
    (verdict_text g.denominator (listed_time g (start_of g options.charge) plan) verdict.Accepted)

-- A proof is written that is accepted, so that its plan is a fastest one, or no plan is feasible, in
-- any fraction of a unit; it is read back from what is written; and this plan is put as `fixed` puts
-- it, or that there is none.
pub record PutsProved (options : Options) (word cert bytes : List ℕ)
    (ended : Status) (ws : List Written) (text : List ℕ) : Type 0 where
  pub network : Network
  pub route : List ℕ
  pub task : IsTask options word bytes network route
  pub proof : RouteProof
  pub fits : ProofFits network route proof
  pub accepted : IsAccepted (journey_of options network route) proof
  pub shows : IsTrue (journey_of options network route) proof.plan
  pub status_is : ended ≡ fixed_status proof.plan
  pub written : ws ≡ record { name = cert; bytes = proof_text proof } ∷ []
  pub judged : All (AcceptsProof options word bytes network proof.plan) ws
  pub text_is : text
      ≡ fixed_text network.denominator
      (timed_plan network (start_of network options.charge) proof.plan)

-- the first broken rule, which is one of `fixed`, is put, and nothing is written
pub record PutsProveRefusal (options : Options) (word bytes : List ℕ)
    (ws : List Written) (text : List ℕ) : Type 0 where
  pub refusal : Refusal
  pub rule : IsRule refusal
  pub refused : IsRefused options word bytes refusal
  pub none : ws ≡ []
  pub text_is : text ≡ refusal_text refusal

-- the file and the text that belong to a status
abbrev pub ProveAnswers : Options → List ℕ → List ℕ → List ℕ →
    Status → List Written → List ℕ → Type 0
ProveAnswers options word cert bytes status.Done ws text =
    PutsProved options word cert bytes status.Done ws text
ProveAnswers options word cert bytes status.Negative ws text =
    PutsProved options word cert bytes status.Negative ws text
ProveAnswers options word cert bytes status.Refused ws text =
    PutsProveRefusal options word bytes ws text
ProveAnswers options word cert bytes other ws text = ⊥

-- `prove` reads one file
abbrev pub prove_answers : ProofJob → List (List ℕ) → Outcome → Type 0
prove_answers job (bytes ∷ []) o =
    ProveAnswers job.options job.route job.cert bytes o.status o.writes o.text
prove_answers job other o = ⊥

abbrev pub prove_task : ProofJob → Task Cause
prove_task job = record {
  reads = file_read job.file ∷ [];
  goes_on = λ before. Unit {0};
  answers = prove_answers job;
  heard = HearsRefusals;
  asks = λ name. ⊥;
  writes_first = λ ws. ⊥;
  is_open = ⊥;
  has_budget = ⊥;
}

-- the job of charging the same route
abbrev pub fixed_job_of : ProofJob → FixedJob
fixed_job_of job = job_with job.file job.route job.options
