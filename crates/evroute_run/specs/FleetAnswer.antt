-- What `fleet` writes and puts on the bytes of its instance.
use Rattle.std.specs.Prelude.{◌≡◌, ◌≢◌, ◌↔◌, ℕ, ◌*◌, ◌≤◌, Bool, true, false, List, [], ◌∷◌, Option, None, Some, length, if◌then◌else◌}
use Rattle.bound_certificate.specs.CertificateTexts.{certificate_text}
use Rattle.bound_certificate.specs.Written.{written}
use Rattle.bound_certificate.specs.declared.certificate.Certificate.{Certificate}
use Rattle.bound_certificate.specs.declared.certificate.Root.{Root}
use Rattle.bound_certificate.specs.declared.certificate.Root.TheVariants as root
use Rattle.certificate_parts.specs.Limits.{most_bytes}
use Rattle.certificate_check.specs.Accepted.{IsSectionAt}
use Rattle.certificate_check.specs.Truth.{IsLeastCost, IsTrueBound}
use Rattle.command_line.specs.Words.{FleetJob}
use Rattle.ev_fleet.specs.Outcome.{IsOutcome, LeavesGap}
use Rattle.ev_fleet.specs.Plans.{cost_held}
use Rattle.ev_fleet.specs.declared.outcome.Outcome.{Outcome}
use Rattle.ev_model.specs.Network.{IsNetwork, Network}
use Rattle.fleet_model.specs.Prices.{price_total}
use Rattle.fleet_model.specs.Section.{Section}
use Rattle.plan_writer.specs.CheckText.{check_text}
use Rattle.plan_writer.specs.FleetText.{IsExactLine, fleet_text}
use Rattle.plan_writer.specs.declared.check.Judgement.TheVariants as judgement
use Rattle.plan_writer.specs.declared.fleet.Outcomes.{Outcomes}
use Rattle.plan_writer.specs.declared.fleet.RootLine.{RootLine}
use Rattle.plan_writer.specs.declared.fleet.RootLine.TheVariants as line
use Rattle.route_plan.specs.Limits.{most_bytes as most_plan_bytes}
use Rattle.route_plan.specs.PlanTexts.{fleet_plan_text}
use Rattle.job_frame.specs.Caps.{file_read}
use Rattle.evroute_run.specs.CheckAnswer.{IsCertificateOf, PutsAccepted}
use Rattle.fleet_steps.specs.FleetNetwork.{HasFleetNetwork}
use Rattle.evroute_run.specs.FleetRefusal.{PutsFleetRefusal}
use Rattle.evroute_causes.specs.Heard.{HearsSearch}
use Rattle.job_frame.specs.Task.{Task}
use Rattle.job_frame.specs.Task as task
use Rattle.job_frame.specs.Writes.{Written}
use Rattle.job_frame.specs.declared.status.Status.{Status}
use Rattle.job_frame.specs.declared.status.Status.TheVariants as status
use Rattle.evroute_causes.specs.declared.cause.Cause.{Cause}

-- what the line of a certificate's root tells: nothing where there is no fractional cover; of an exact root the price sum of
-- section 0 over its weight, which no fractional cover costs less than, in units of time and in lowest terms; or that the
-- root is wide
abbrev pub TellsKind : Network → Certificate → Root → RootLine → Type 0
TellsKind g c root.None told = told ≡ line.Empty
TellsKind g c (root.Exact over shares) told =
    (s : Section) × IsSectionAt c 0 s × IsLeastCost g s
    × IsExactLine (price_total s.prices) (s.weight * g.denominator) told
TellsKind g c (root.Wide columns basis) told = told ≡ line.Wide

abbrev pub TellsRootOf : Network → Certificate → RootLine → Type 0
TellsRootOf g c told = TellsKind g c c.root told

-- the status of a search with this bound: there is no fleet plan; or the budget ended it; or it came to its end
abbrev pub search_status : Option ℕ → Bool → Status
search_status None stopped = status.Negative
search_status (Some bound) true = status.Stopped
search_status (Some bound) false = status.Done

-- the cost and the bound are the same number
abbrev pub IsClosed : Option ℕ → Option ℕ → Type 0
IsClosed cost bound = (n : ℕ) × (cost ≡ Some n) × (bound ≡ Some n)

-- a budget is given, the certificate has as many sections, and the cost is above the bound, or no plan is held though the
-- bound is a number
abbrev pub IsUsedUp : Network → Option ℕ → Outcome → Type 0
IsUsedUp g budget o =
    (budget ≡ Some (length o.certificate.sections))
    × LeavesGap (cost_held g o.plan) o.certificate.bound

-- what the status of a search with this budget tells of its answer
pub record StatusTells (g : Network) (budget : Option ℕ) (o : Outcome) (ended : Status) : Type 0 where
  pub done : (ended ≡ status.Done) ↔ IsClosed (cost_held g o.plan) o.certificate.bound
  pub stopped : (ended ≡ status.Stopped) ↔ IsUsedUp g budget o
  pub negative : (ended ≡ status.Negative) ↔ (o.certificate.bound ≡ None)
  -- there is no fleet plan where it is negative, in any fraction of a unit
  pub infeasible : ended ≡ status.Negative → IsTrueBound g None
  -- and without a budget it is negative wherever there is none
  pub complete : budget ≡ None → IsTrueBound g None → ended ≡ status.Negative

-- what is reported of a search
abbrev pub outcomes_of : Network → Outcome → RootLine → Outcomes
outcomes_of g o told = record {
  cost = cost_held g o.plan;
  bound = o.certificate.bound;
  root = told;
  stopped = if o.stopped then Some o.nodes else None;
}

-- the text of a certificate, where it isn't too long, is read as this certificate
abbrev pub IsReadBack : Network → Certificate → Type 0
IsReadBack g c =
    length (certificate_text g (written g c)) ≤ most_bytes →
    IsCertificateOf g (certificate_text g (written g c)) c

-- A search with this budget found a plan, or holds none, and a certificate, and these are the text of the plan file, the text
-- of the certificate, the status and the report. The certificate is read back from its text. The bound is true: no fleet plan
-- costs less, in any fraction of a unit; where there is none, there is no fleet plan, in any fraction.
pub record IsFound (g : Network) (budget : Option ℕ)
    (plan_bytes cert_bytes : List ℕ) (ended : Status) (text : List ℕ) : Type 0 where
  pub is_network : IsNetwork g
  pub outcome : Outcome
  pub is : IsOutcome g budget outcome
  pub true_bound : IsTrueBound g outcome.certificate.bound
  pub plan_is : plan_bytes ≡ fleet_plan_text outcome.plan
  pub cert_is : cert_bytes ≡ certificate_text g (written g outcome.certificate)
  pub read_back : IsReadBack g outcome.certificate
  pub root : RootLine
  pub root_is : TellsRootOf g outcome.certificate root
  pub status_is : ended ≡ search_status outcome.certificate.bound outcome.stopped
  pub tells : StatusTells g budget outcome ended
  pub text_is : text ≡ fleet_text g.denominator (outcomes_of g outcome root)

-- plan and certificate, where neither is more than is read, `check` accepts beside the same instance, with this cost and bound
abbrev pub AcceptsFound : Option ℕ → List ℕ → Network → Outcome → List ℕ → List ℕ → Type 0
AcceptsFound limit bytes g o plan_bytes cert_bytes =
    length plan_bytes ≤ most_plan_bytes → length cert_bytes ≤ most_bytes →
    PutsAccepted limit bytes plan_bytes cert_bytes
    (check_text g.denominator (judgement.Accepted (cost_held g o.plan) o.certificate.bound))

-- what was found on the instance of the bytes is put, behind the two files
pub record PutsFound (job : FleetJob) (bytes : List ℕ)
    (ended : Status) (ws : List Written) (text : List ℕ) : Type 0 where
  pub network : Network
  pub fleet : HasFleetNetwork job.limit bytes network
  pub plan_bytes : List ℕ
  pub cert_bytes : List ℕ
  pub found : IsFound network job.nodes plan_bytes cert_bytes ended text
  pub judged : AcceptsFound job.limit bytes network found.outcome plan_bytes cert_bytes
  pub written : ws
      ≡ record { name = job.plan; bytes = plan_bytes }
      ∷ record { name = job.cert; bytes = cert_bytes } ∷ []

-- the files and the text that belong to a status
abbrev pub FleetAnswers : FleetJob → List ℕ → Status → List Written → List ℕ → Type 0
FleetAnswers job bytes status.Done ws text = PutsFound job bytes status.Done ws text
FleetAnswers job bytes status.Negative ws text = PutsFound job bytes status.Negative ws text
FleetAnswers job bytes status.Stopped ws text = PutsFound job bytes status.Stopped ws text
FleetAnswers job bytes status.Refused ws text = PutsFleetRefusal job.limit bytes ws text
FleetAnswers job bytes other ws text = ⊥

abbrev pub fleet_answers : FleetJob → List (List ℕ) → task.Outcome → Type 0
fleet_answers job (bytes ∷ []) o = FleetAnswers job bytes o.status o.writes o.text
fleet_answers job other o = ⊥

-- what a search finds is left open, and a budget may end it
abbrev pub fleet_task : FleetJob → Task Cause
fleet_task job = record {
  reads = file_read job.file ∷ [];
  goes_on = λ before. Unit {0};
  answers = fleet_answers job;
  heard = HearsSearch;
  asks = λ name. ⊥;
  writes_first = λ ws. ⊥;
  is_open = Unit {0};
  has_budget = job.nodes ≢ None;
}
