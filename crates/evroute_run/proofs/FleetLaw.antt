-- The files that `fleet` leaves tell its status, and a budget alone stops it.
use Rattle.std.proofs.Common.{◌≡◌, ◌≢◌, ◌∙◌, ℕ, ◌⊎◌, List, [], ◌∷◌, Option, None, Some, length, inl, inr, refl, subst, sym}
use Rattle.command_line.specs.Words.{FleetJob}
use Rattle.job_frame.specs.Lawful.{AreWrittenAlike, IsLawful}
use Rattle.job_frame.specs.Task.{Outcome}
use Rattle.job_frame.specs.Writes.{Written}
use Rattle.fleet_steps.proofs.Instances.{fleet_refused_not}
use Rattle.evroute_run.proofs.OneSearch.{same_search}
use Rattle.evroute_run.specs.FleetAnswer.{FleetAnswers, PutsFound, fleet_answers, fleet_task}
use Rattle.evroute_run.specs.FleetRefusal.{PutsFleetRefusal}
use Rattle.job_frame.specs.declared.status.Status.{Status}
use Rattle.job_frame.specs.declared.status.Status.TheVariants as status

some_is_not_none : (budget : Option ℕ) (n : ℕ) → budget ≡ Some n → budget ≢ None
some_is_not_none None n is none = absurd (cc)
some_is_not_none (Some m) n is none = absurd (cc)

stopped_has_budget : (job : FleetJob) (bytes : List ℕ) (ws : List Written) (text : List ℕ) → PutsFound job bytes status.Stopped ws text → job.nodes ≢ None
stopped_has_budget job bytes ws text p =
    some_is_not_none job.nodes (length p.found.outcome.certificate.sections) (p.found.tells.stopped.0 refl).0

-- an answer is what was found, or a refusal
FoundOrRefused : FleetJob → List ℕ → Outcome → Type 0
FoundOrRefused job bytes o =
    PutsFound job bytes o.status o.writes o.text ⊎ ((o.status ≡ status.Refused) × PutsFleetRefusal job.limit bytes o.writes o.text)

found_or_refused : (job : FleetJob) (bytes : List ℕ) (s : Status) (ws : List Written) (text : List ℕ) → FleetAnswers job bytes s ws text →
    PutsFound job bytes s ws text ⊎ ((s ≡ status.Refused) × PutsFleetRefusal job.limit bytes ws text)
found_or_refused job bytes status.Done ws text p = inl p
found_or_refused job bytes status.Negative ws text p = inl p
found_or_refused job bytes status.Stopped ws text p = inl p
found_or_refused job bytes status.Refused ws text p = inr (refl, p)
found_or_refused job bytes status.Words ws text p = absurd p
found_or_refused job bytes status.Fault ws text p = absurd p
found_or_refused job bytes status.Memory ws text p = absurd p

one_answer : (job : FleetJob) (bytes : List ℕ) (o p : Outcome) → AreWrittenAlike o p → FoundOrRefused job bytes o → FoundOrRefused job bytes p → o.status ≡ p.status
unfolding FoundOrRefused
one_answer job bytes o p alike (inl is) (inl was) = same_search job bytes o p alike is was
one_answer job bytes o p alike (inl is) (inr (refused, was)) = absurd (fleet_refused_not job.limit bytes is.network was.refusal is.fleet was.rule was.refused)
one_answer job bytes o p alike (inr (refused, is)) (inl was) = absurd (fleet_refused_not job.limit bytes was.network is.refusal was.fleet is.rule is.refused)
one_answer job bytes o p alike (inr (refused, is)) (inr (other, was)) = refused ∙ sym other

fleet_status : (job : FleetJob) (bytes : List (List ℕ)) (o p : Outcome) → fleet_answers job bytes o → fleet_answers job bytes p → (Unit {0} → AreWrittenAlike o p) → o.status ≡ p.status
unfolding FoundOrRefused
fleet_status job (bytes ∷ []) o p is was alike =
    one_answer job bytes o p (alike tt) (found_or_refused job bytes o.status o.writes o.text is) (found_or_refused job bytes p.status p.writes p.text was)
fleet_status job [] o p is was alike = absurd is
fleet_status job (bytes ∷ more ∷ others) o p is was alike = absurd is

fleet_stopped : (job : FleetJob) (bytes : List (List ℕ)) (o : Outcome) → fleet_answers job bytes o → o.status ≡ status.Stopped → job.nodes ≢ None
fleet_stopped job (bytes ∷ []) o is stopped =
    stopped_has_budget job bytes o.writes o.text (subst (λ (s : Status). FleetAnswers job bytes s o.writes o.text) stopped is)
fleet_stopped job [] o is stopped = absurd is
fleet_stopped job (bytes ∷ more ∷ others) o is stopped = absurd is

pub fleet_lawful : (job : FleetJob) → IsLawful (fleet_task job)
fleet_lawful job = record { one_status = fleet_status job; stopped = fleet_stopped job }
