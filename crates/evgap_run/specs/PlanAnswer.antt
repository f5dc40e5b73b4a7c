-- What `plan` writes and puts on the bytes of its instance, and of the plan to begin with where it
-- is given one.
use Rattle.std.specs.Prelude.{◌≡◌, ℕ, ◌≤◌, ◌⊎◌, Bool, false, true, List, [], ◌∷◌, Option, None, Some, Err, if◌then◌else◌, is_some, length, nat_eq}
use Rattle.certificate_parts.specs.Limits as certificate
use Rattle.ev_model.specs.Network.{IsNetwork, Network}
use Rattle.near_steps.specs.NearFile.{HasNear}
use Rattle.fleet_steps.specs.PlanFile.{BreaksFirst, IsReadBack, IsValid, routes_of}
use Rattle.fleet_steps.specs.FleetNetwork.{HasFleetNetwork}
use Rattle.gap_search.specs.Gap.{IsGapOutcome, cost_held, plan_held}
use Rattle.gap_search.specs.declared.outcome.GapOutcome.{GapOutcome}
use Rattle.gap_words.specs.Words.{PlanGap}
use Rattle.evgap_run.specs.Heard.{HearsBrokenPlan}
use Rattle.evgap_run.specs.Heard.{HearsRefusal}
use Rattle.job_frame.specs.LimitedNetwork.{HasNetwork, IsNetworkRefused}
use Rattle.job_frame.specs.Task.{Outcome, Read, Task}
use Rattle.job_frame.specs.Writes.{Written}
use Rattle.evgap_run.specs.declared.cause.Cause.{Cause}
use Rattle.evgap_run.specs.declared.cause.Cause.TheVariants as cause
use Rattle.job_frame.specs.declared.status.Status.{Status}
use Rattle.job_frame.specs.declared.status.Status.TheVariants as status
use Rattle.job_frame.specs.Caps.{file_read}
use Rattle.near_proof.specs.Accepted.{IsAccepted}
use Rattle.near_proof.specs.Truth.{IsTrue, IsTrueNearBound}
use Rattle.near_proof.specs.declared.proof.NearProof.{NearProof}
use Rattle.plan_check.specs.declared.fault.PlanFault.{PlanFault}
use Rattle.refusal_lines.specs.RejectedText.{rejected_text}
use Rattle.refusal_lines.specs.RefusalText.{IsRule, refusal_text}
use Rattle.refusal_lines.specs.declared.refusal.Refusal.{Refusal}
use Rattle.refusal_lines.specs.declared.refusal.Refusal.TheVariants as refusal
use Rattle.route_improve.specs.declared.improving.Improved.{Improved}
use Rattle.route_improve.specs.declared.improving.Improved.TheVariants.{Alone, Plan}
use Rattle.route_plan.specs.Limits as route
use Rattle.route_plan.specs.PlanReading.{fleet_plan_in}
use Rattle.route_plan.specs.PlanTexts.{SpellsFleetPlan, fleet_plan_text}
use Rattle.route_plan.specs.declared.plan.FleetPlan.{FleetPlan}
use Rattle.tree_text.specs.BoundProofs.{bound_of, bound_proof_text}
use Rattle.tree_text.specs.BoundTexts.{begins_tree}
use Rattle.evgap_run.specs.CheckAnswer.{CheckAnswers}
use Rattle.evgap_run.specs.Report.{accepted_text, found_text}

-- the file of the plan to begin with holds this one, or says that there is none; where no file is
-- named there is none
abbrev pub HasStart : Option (List ℕ) → List (List ℕ) → Option FleetPlan → Type 0
HasStart None [] start = start ≡ None
HasStart None (bytes ∷ more) start = ⊥
HasStart (Some name) [] start = ⊥
HasStart (Some name) (bytes ∷ []) start = SpellsFleetPlan bytes start
HasStart (Some name) (bytes ∷ other ∷ more) start = ⊥

-- the bytes break no rule of a text: g is the network, and this is the plan to begin with
pub record HasPlanJob (job : PlanGap) (bytes : List ℕ) (more : List (List ℕ))
    (g : Network) (start : Option FleetPlan) : Type 0 where
  pub network : HasNetwork job.limit bytes g
  pub held : HasStart job.start more start

-- the text of the plan to begin with is none
abbrev pub IsNoStart : Option (List ℕ) → List (List ℕ) → Refusal → Type 0
IsNoStart (Some name) (bytes ∷ []) (refusal.Plan fault) = fleet_plan_in bytes ≡ Err fault
IsNoStart name more other = ⊥

-- the first broken rule: of the instance, the limit, then of the text of the plan to begin with
abbrev pub IsPlanRefused : PlanGap → List ℕ → List (List ℕ) → Refusal → Type 0
IsPlanRefused job bytes more r =
    IsNetworkRefused job.limit bytes r
    ⊎ ((g : Network) × HasNetwork job.limit bytes g × IsNoStart job.start more r)

-- the customer whom no route of his own reaches, where no plan is held
abbrev pub alone_in : Improved → Option ℕ
alone_in (Plan plan) = None
alone_in (Alone node) = Some node

-- the status beside a bound that is a number: whether a plan is held that costs no more
abbrev pub gap_status : Option ℕ → ℕ → Status
gap_status None bound = status.Stopped
gap_status (Some cost) bound = if nat_eq cost bound then status.Done else status.Stopped

-- the status beside this cost and this bound: there is no fleet plan, or no gap, or one
abbrev pub plan_status : Option ℕ → Option ℕ → Status
plan_status cost None = status.Negative
plan_status cost (Some bound) = gap_status cost bound

-- what `evroute check-bound` accepts: the bytes are the text of a proof, which is accepted and true
pub record IsAcceptedBound (limit : Option ℕ) (bytes proof_bytes : List ℕ)
    (bound : Option ℕ) : Type 0 where
  pub network : Network
  pub fleet : HasFleetNetwork limit bytes network
  pub proof : NearProof
  pub has : HasNear network proof_bytes proof
  pub accepted : IsAccepted network proof
  pub shows : IsTrue network proof
  pub bound_is : proof.bound ≡ bound

-- the two files, read again, are accepted by `check`, with the same cost and bound, and a proof that
-- is no tree by `evroute check-bound`, where no text is too long
pub record AreAccepted (limit : Option ℕ) (bytes plan_bytes proof_bytes : List ℕ)
    (denominator : ℕ) (cost bound : Option ℕ) : Type 0 where
  pub both : length plan_bytes ≤ route.most_bytes → length proof_bytes ≤ certificate.most_bytes
      → CheckAnswers limit bytes plan_bytes proof_bytes status.Done
      (accepted_text denominator cost bound)
  pub proof : begins_tree proof_bytes ≡ false → length proof_bytes ≤ certificate.most_bytes
      → IsAcceptedBound limit bytes proof_bytes bound

-- A search found a plan, or holds none, and a proof, and these are the text of the plan file, the
-- text of the proof, the status and the report. The bound is true: no fleet plan costs less, in any
-- fraction of a unit; where there is none, there is no fleet plan, in any fraction. A clock ended the
-- moves of the plan only where it may.
pub record IsPlanFound (g : Network) (start : Option FleetPlan) (may_end : Bool)
    (plan_bytes proof_bytes : List ℕ) (ended : Status) (text : List ℕ) : Type 0 where
  pub is_network : IsNetwork g
  pub outcome : GapOutcome
  pub moves_ended : Bool
  pub may : may_end ≡ false → moves_ended ≡ false
  pub is : IsGapOutcome g (routes_of start) moves_ended outcome
  pub true_bound : IsTrueNearBound g (bound_of outcome.proof)
  pub plan_is : plan_bytes ≡ fleet_plan_text (plan_held outcome.plan)
  pub proof_is : proof_bytes ≡ bound_proof_text g outcome.proof
  pub status_is : ended ≡ plan_status (cost_held g outcome.plan) (bound_of outcome.proof)
  pub text_is : text ≡ found_text g.denominator (alone_in outcome.plan)
      (cost_held g outcome.plan) (bound_of outcome.proof)

-- the plan to begin with breaks no rule, and what was found is put, behind the two files, which are
-- accepted; the words have a clock where they give seconds
pub record PutsPlan (job : PlanGap) (bytes : List ℕ) (more : List (List ℕ))
    (ended : Status) (ws : List Written) (text : List ℕ) : Type 0 where
  pub network : Network
  pub start : Option FleetPlan
  pub has : HasPlanJob job bytes more network start
  pub was : Option ℕ
  pub valid : IsValid network start was
  pub plan_bytes : List ℕ
  pub proof_bytes : List ℕ
  pub found : IsPlanFound network start (is_some job.seconds) plan_bytes proof_bytes ended text
  pub accepted : AreAccepted job.limit bytes plan_bytes proof_bytes network.denominator
      (cost_held network found.outcome.plan) (bound_of found.outcome.proof)
  pub again : IsReadBack plan_bytes (plan_held found.outcome.plan)
  pub written : ws
      ≡ record { name = job.plan; bytes = plan_bytes }
      ∷ record { name = job.proof; bytes = proof_bytes } ∷ []

-- the first rule that the plan to begin with breaks is put, and nothing is written
pub record PutsBrokenStart (job : PlanGap) (bytes : List ℕ) (more : List (List ℕ))
    (ws : List Written) (text : List ℕ) : Type 0 where
  pub network : Network
  pub start : Option FleetPlan
  pub has : HasPlanJob job bytes more network start
  pub fault : PlanFault
  pub broken : BreaksFirst network start fault
  pub none : ws ≡ []
  pub text_is : text ≡ rejected_text fault

-- the first broken rule of the instance, the words or the text of the plan to begin with is put,
-- and nothing is written
pub record PutsPlanRefusal (job : PlanGap) (bytes : List ℕ) (more : List (List ℕ))
    (ws : List Written) (text : List ℕ) : Type 0 where
  pub refusal : Refusal
  pub rule : IsRule refusal
  pub refused : IsPlanRefused job bytes more refusal
  pub none : ws ≡ []
  pub text_is : text ≡ refusal_text refusal

-- the files and the text that belong to a status
abbrev pub PlanAnswers : PlanGap → List ℕ → List (List ℕ) → Status → List Written → List ℕ → Type 0
PlanAnswers job bytes more status.Done ws text = PutsPlan job bytes more status.Done ws text
PlanAnswers job bytes more status.Negative ws text =
    PutsPlan job bytes more status.Negative ws text ⊎ PutsBrokenStart job bytes more ws text
PlanAnswers job bytes more status.Stopped ws text = PutsPlan job bytes more status.Stopped ws text
PlanAnswers job bytes more status.Refused ws text = PutsPlanRefusal job bytes more ws text
PlanAnswers job bytes more other ws text = ⊥

-- what the first line of a search tells, that there is no fleet plan, or who is out of reach; or that
-- a clock ended the moves
abbrev pub found_cause : Option ℕ → Option ℕ → Bool → Option Cause
found_cause alone None ended = Some cause.NoFleet
found_cause (Some node) (Some bound) ended = Some (cause.Alone node)
found_cause None (Some bound) true = Some cause.MovesEnded
found_cause None (Some bound) false = None

-- the lines of what a search found are put, and its cause is heard; that a clock ended the moves only
-- where it may
pub record HearsFound (may_end : Bool) (answered : Status) (text : List ℕ)
    (heard : Option Cause) : Type 0 where
  pub denominator : ℕ
  pub alone : Option ℕ
  pub cost : Option ℕ
  pub bound : Option ℕ
  pub status_is : answered ≡ plan_status cost bound
  pub text_is : text ≡ found_text denominator alone cost bound
  pub moves_ended : Bool
  pub may : may_end ≡ false → moves_ended ≡ false
  pub heard_is : heard ≡ found_cause alone bound moves_ended

-- what is heard of an answer, where a clock may end the moves or may not
abbrev pub plan_heard : Bool → Status → List ℕ → Option Cause → Type 0
plan_heard may_end answered text heard =
    HearsRefusal answered text heard ⊎ HearsBrokenPlan answered text heard
    ⊎ HearsFound may_end answered text heard

-- `plan` reads its instance, and the plan to begin with where a file is named
abbrev pub plan_answers : PlanGap → List (List ℕ) → Outcome → Type 0
plan_answers job [] o = ⊥
plan_answers job (bytes ∷ more) o = PlanAnswers job bytes more o.status o.writes o.text

-- it comes to the plan to begin with where no rule of its instance is broken
abbrev pub plan_goes_on : PlanGap → List (List ℕ) → Type 0
plan_goes_on job [] = Unit {0}
plan_goes_on job (bytes ∷ []) = (g : Network) × HasNetwork job.limit bytes g
plan_goes_on job other = ⊥

abbrev pub start_reads : Option (List ℕ) → List Read
start_reads None = []
start_reads (Some name) = file_read name ∷ []

-- it asks before whether both files can be written; what a search finds is left open, and it may
-- leave a gap
abbrev pub plan_task : PlanGap → Task Cause
plan_task job = record {
  reads = file_read job.file ∷ start_reads job.start;
  goes_on = plan_goes_on job;
  answers = plan_answers job;
  heard = plan_heard (is_some job.seconds);
  asks = λ name. (name ≡ job.plan) ⊎ (name ≡ job.proof);
  writes_first = λ ws. ⊥;
  is_open = Unit {0};
  has_budget = Unit {0};
}
