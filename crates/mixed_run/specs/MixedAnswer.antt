-- What `mixed` writes and puts on the bytes of its instances.
use Rattle.std.specs.Prelude.{◌≡◌, ◌↔◌, ◌⊎◌, ℕ, ◌*◌, ◌≤◌, List, [], ◌∷◌, Option, None, Some, length}
use Rattle.certificate_parts.specs.Limits.{most_bytes}
use Rattle.ev_model.specs.Network.{Network}
use Rattle.fleet_model.specs.Prices.{price_total}
use Rattle.evroute_causes.specs.Heard.{HearsElse, search_cause}
use Rattle.job_frame.specs.Task.{Task}
use Rattle.job_frame.specs.Writes.{Written}
use Rattle.evroute_causes.specs.declared.cause.Cause.{Cause}
use Rattle.job_frame.specs.declared.status.Status.{Status}
use Rattle.job_frame.specs.declared.status.Status.TheVariants as status
use Rattle.mixed_fleet.specs.Outcome.{IsOutcome}
use Rattle.mixed_fleet.specs.Plans.{cost_held}
use Rattle.mixed_fleet.specs.declared.outcome.MixedOutcome.{MixedOutcome}
use Rattle.mixed_model.specs.Kinds.{first_of}
use Rattle.mixed_model.specs.Truth.{IsLeastCost, IsTrueBound}
use Rattle.mixed_model.specs.declared.proof.MixedProof.{MixedProof}
use Rattle.mixed_model.specs.declared.proof.MixedRoot.{MixedRoot}
use Rattle.mixed_model.specs.declared.proof.MixedRoot.TheVariants as root
use Rattle.mixed_model.specs.MixedTexts.{mixed_plan_text}
use Rattle.mixed_text.specs.MixedTexts.{mixed_text}
use Rattle.mixed_text.specs.Written.{written_mixed}
use Rattle.plan_writer.specs.FleetText.{IsExactLine, fleet_text}
use Rattle.plan_writer.specs.declared.fleet.Outcomes.{Outcomes}
use Rattle.plan_writer.specs.declared.fleet.RootLine.{RootLine}
use Rattle.plan_writer.specs.declared.fleet.RootLine.TheVariants as line
use Rattle.route_plan.specs.Limits.{most_bytes as most_plan_bytes}
use Rattle.command_line.specs.Words.{MixedJob}
use Rattle.mixed_run.specs.CheckMixedAnswer.{HasProof, PutsMixedAccepted, judgement_text}
use Rattle.mixed_run.specs.KindFiles.{HasKinds, HaveNetworks, HearsMixedRefusal, IsKindsRefused, IsMixedRule, kind_reads, mixed_refusal_text}
use Rattle.mixed_run.specs.declared.judging.MixedJudgement.TheVariants as judgement
use Rattle.mixed_run.specs.declared.refusal.MixedRefusal.{MixedRefusal}

-- what the line of a root tells: nothing where there is no fractional cover; of an exact root the
-- price sum over the weight, which no fractional cover costs less than, in units of time and in
-- lowest terms; or that the root is wide
abbrev pub TellsRoot : List Network → MixedProof → MixedRoot → RootLine → Type 0
TellsRoot kinds p root.None told = told ≡ line.Empty
TellsRoot kinds p (root.Exact over shares) told =
    IsLeastCost kinds p.weight p.prices
    × IsExactLine (price_total p.prices) (p.weight * (first_of kinds).denominator) told
TellsRoot kinds p (root.Wide columns basis) told = told ≡ line.Wide

-- the status of a search with this bound: there is no plan, or the search did what it was asked for
abbrev pub mixed_status : Option ℕ → Status
mixed_status None = status.Negative
mixed_status (Some bound) = status.Done

-- what is reported of a search, which no budget ends
abbrev pub outcomes_of : List Network → MixedOutcome → RootLine → Outcomes
outcomes_of kinds o told = record {
  cost = cost_held kinds o.plan;
  bound = o.proof.bound;
  root = told;
  stopped = None;
}

-- the text of a proof, where it isn't too long, is read as this proof
abbrev pub IsReadBack : List Network → MixedProof → Type 0
IsReadBack kinds p =
    length (mixed_text (written_mixed kinds p)) ≤ most_bytes →
    HasProof kinds (mixed_text (written_mixed kinds p)) p

-- A search found a plan, or holds none, and a proof, and these are the text of the plan file, the
-- text of the proof, the status and the report. The proof is read back from its text. The bound is
-- true: no plan costs less, in any fraction of a unit; where there is none, there is no plan, in any
-- fraction.
pub record IsMixedFound (kinds : List Network)
    (plan_bytes cert_bytes : List ℕ) (ended : Status) (text : List ℕ) : Type 0 where
  pub outcome : MixedOutcome
  pub is : IsOutcome kinds outcome
  pub true_bound : IsTrueBound kinds outcome.proof.bound
  pub plan_is : plan_bytes ≡ mixed_plan_text outcome.plan
  pub cert_is : cert_bytes ≡ mixed_text (written_mixed kinds outcome.proof)
  pub read_back : IsReadBack kinds outcome.proof
  pub root : RootLine
  pub root_is : TellsRoot kinds outcome.proof outcome.proof.root root
  pub status_is : ended ≡ mixed_status outcome.proof.bound
  -- the answer is negative exactly where the proof has no bound
  pub negative : (ended ≡ status.Negative) ↔ (outcome.proof.bound ≡ None)
  pub text_is : text ≡ fleet_text (first_of kinds).denominator (outcomes_of kinds outcome root)

-- plan and proof, where neither is more than is read, `check-mixed` accepts beside the same
-- instances, with this cost and bound
abbrev pub AcceptsMixed : Option ℕ → List (List ℕ) → List Network → MixedOutcome → List ℕ →
    List ℕ → Type 0
AcceptsMixed limit files kinds o plan_bytes cert_bytes =
    length plan_bytes ≤ most_plan_bytes → length cert_bytes ≤ most_bytes →
    PutsMixedAccepted limit files plan_bytes cert_bytes (judgement_text (first_of kinds).denominator
    (judgement.Accepted (cost_held kinds o.plan) o.proof.bound))

-- what was found for the kinds of the files is put, behind the two files
pub record PutsMixedFound (job : MixedJob) (files : List (List ℕ))
    (ended : Status) (ws : List Written) (text : List ℕ) : Type 0 where
  pub kinds : List Network
  pub has : HasKinds job.limit files kinds
  pub plan_bytes : List ℕ
  pub cert_bytes : List ℕ
  pub found : IsMixedFound kinds plan_bytes cert_bytes ended text
  pub judged : AcceptsMixed job.limit files kinds found.outcome plan_bytes cert_bytes
  pub written : ws
      ≡ record { name = job.plan; bytes = plan_bytes }
      ∷ record { name = job.cert; bytes = cert_bytes } ∷ []

-- the line of the first broken rule of the files is put, and nothing is written
pub record PutsKindsRefusal (limit : Option ℕ) (files : List (List ℕ))
    (ws : List Written) (text : List ℕ) : Type 0 where
  pub refusal : MixedRefusal
  pub rule : IsMixedRule refusal
  pub refused : IsKindsRefused limit files refusal
  pub none : ws ≡ []
  pub text_is : text ≡ mixed_refusal_text refusal

-- the files and the text that belong to a status
abbrev pub MixedAnswers : MixedJob → List (List ℕ) → Status → List Written → List ℕ → Type 0
MixedAnswers job files status.Done ws text = PutsMixedFound job files status.Done ws text
MixedAnswers job files status.Negative ws text = PutsMixedFound job files status.Negative ws text
MixedAnswers job files status.Refused ws text = PutsKindsRefusal job.limit files ws text
MixedAnswers job files other ws text = ⊥

-- what is heard of an answer: the rule that is broken, or that there is no plan
abbrev pub mixed_heard : Status → List ℕ → Option Cause → Type 0
mixed_heard answered text heard =
    HearsMixedRefusal answered text heard ⊎ HearsElse search_cause answered text heard

-- the instances are read in order, as long as each takes the limit; what a search finds is left
-- open
abbrev pub mixed_task : MixedJob → Task Cause
mixed_task job = record {
  reads = kind_reads job.files;
  goes_on = λ bytes. (kinds : List Network) × HaveNetworks job.limit bytes kinds;
  answers = λ bytes o. MixedAnswers job bytes o.status o.writes o.text;
  heard = mixed_heard;
  asks = λ name. ⊥;
  writes_first = λ ws. ⊥;
  is_open = Unit {0};
  has_budget = ⊥;
}
