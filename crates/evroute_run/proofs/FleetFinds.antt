-- What `fleet` finds, once a search has found a plan or none and a certificate.
use Rattle.std.proofs.Common.{◌≡◌, ◌≢◌, ℕ, ◌≤◌, Bool, true, false, List, [], ◌∷◌, Option, None, Some, length, refl, subst, sym}
use Rattle.certificate_check.proofs.Truths.{true_certificate}
use Rattle.certificate_parts.specs.Limits.{most_bytes as most_certificate_bytes}
use Rattle.command_line.specs.Words.{FleetJob}
use Rattle.ev_model.specs.Network.{Network}
use Rattle.ev_fleet.specs.Plans.{cost_held}
use Rattle.ev_outside.specs.Shelf.{Files}
use Rattle.evroute_run.proofs.Refused.{puts_fleet_refusal}
use Rattle.evroute_run.proofs.SearchReports.{held_fits, held_is_valid}
use Rattle.evroute_run.specs.CheckAnswer.{IsCertificateOf}
use Rattle.job_frame.specs.Caps.{most_bytes}
use Rattle.fleet_steps.specs.FleetNetwork.{HasFleetNetwork, IsFleetEnded}
use Rattle.evroute_run.specs.FleetAnswer.{AcceptsFound, FleetAnswers, IsFound, PutsFound, fleet_task, search_status}
use Rattle.job_frame.specs.declared.answer.Ended.{Ended}
use Rattle.job_frame.specs.declared.answer.Ended.TheVariants.{Refused}
use Rattle.job_frame.specs.Task.{Answers, AreReadUpTo, IsAnswered}
use Rattle.job_frame.specs.Writes.{AreDifferent, Written}
use Rattle.job_frame.specs.declared.status.Status.{Status}
use Rattle.job_frame.specs.declared.status.Status.TheVariants as status
use Rattle.refusal_lines.specs.RefusalText.{refusal_text}
use Rattle.refusal_lines.specs.declared.refusal.Refusal.{Refusal}

-- ---- the line of a refusal

pub fleet_refused : (job : FleetJob) (files : Option Files) (bytes given : List ℕ) (ended : Ended) (refusal : Refusal) → AreReadUpTo most_bytes files job.file bytes → given ≡ bytes
    → ended ≡ Refused refusal → IsFleetEnded job.limit given ended
    → Answers (fleet_task job) files (record { status = status.Refused; writes = []; text = refusal_text refusal })
fleet_refused job files bytes given ended refusal read same is refused = record {
  bytes = bytes ∷ [];
  read = (read, tt);
  answer = puts_fleet_refusal job.limit bytes given ended refusal same is refused;
}

-- ---- the status of what was found

no_refusal : (bound : Option ℕ) (stopped : Bool) → status.Refused ≡ search_status bound stopped → ⊥
no_refusal None stopped is = cc
no_refusal (Some bound) true is = cc
no_refusal (Some bound) false is = cc

answered_status : (bound : Option ℕ) (stopped : Bool) → IsAnswered (search_status bound stopped)
answered_status None stopped = tt
answered_status (Some bound) true = tt
answered_status (Some bound) false = tt

is_answered : (ended : Status) (bound : Option ℕ) (stopped : Bool) → ended ≡ search_status bound stopped → IsAnswered ended
is_answered ended bound stopped is = subst IsAnswered (sym is) (answered_status bound stopped)

found_answers : (job : FleetJob) (bytes : List ℕ) (ended : Status) (ws : List Written) (text : List ℕ) → PutsFound job bytes ended ws text → FleetAnswers job bytes ended ws text
found_answers job bytes status.Done ws text p = p
found_answers job bytes status.Negative ws text p = p
found_answers job bytes status.Stopped ws text p = p
found_answers job bytes status.Refused ws text p = absurd (no_refusal p.found.outcome.certificate.bound p.found.outcome.stopped p.found.status_is)
found_answers job bytes status.Words ws text p = absurd (is_answered status.Words p.found.outcome.certificate.bound p.found.outcome.stopped p.found.status_is)
found_answers job bytes status.Fault ws text p = absurd (is_answered status.Fault p.found.outcome.certificate.bound p.found.outcome.stopped p.found.status_is)
found_answers job bytes status.Memory ws text p = absurd (is_answered status.Memory p.found.outcome.certificate.bound p.found.outcome.stopped p.found.status_is)

-- ---- the plan and the certificate that were found

pub found_is_answered : (g : Network) (budget : Option ℕ) (plan_bytes cert_bytes : List ℕ) (ended : Status) (text : List ℕ) → IsFound g budget plan_bytes cert_bytes ended text → IsAnswered ended
found_is_answered g budget plan_bytes cert_bytes ended text found = is_answered ended found.outcome.certificate.bound found.outcome.stopped found.status_is

-- `check` accepts what is written
accepts : (limit : Option ℕ) (bytes : List ℕ) (g : Network) (budget : Option ℕ) (plan_bytes cert_bytes : List ℕ) (ended : Status) (text : List ℕ) → HasFleetNetwork limit bytes g
    → (found : IsFound g budget plan_bytes cert_bytes ended text) → AcceptsFound limit bytes g found.outcome plan_bytes cert_bytes
accepts limit bytes g budget plan_bytes cert_bytes ended text fleet found =
    let o = found.outcome in
    let read : length cert_bytes ≤ most_certificate_bytes → IsCertificateOf g cert_bytes o.certificate =
    subst (λ (bs : List ℕ). length bs ≤ most_certificate_bytes → IsCertificateOf g bs o.certificate) (sym found.cert_is) found.read_back in
    λ short_plan short. record {
      files = record {
        network = g;
        plan = o.plan;
        fleet = record { network = fleet; spelled = record { within = short_plan; fits = held_fits g o.plan found.is.plan; text = found.plan_is } };
        certificate = o.certificate;
        certificate_is = read short;
      };
      cost = cost_held g o.plan;
      valid = held_is_valid g o.plan found.is.plan;
      accepted = found.is.accepted;
      shows = true_certificate g o.certificate found.is_network found.is.fits found.is.accepted;
      text_is = refl;
    }

pub fleet_found : (job : FleetJob) (files : Option Files) (bytes given : List ℕ) (g : Network) (plan_bytes cert_bytes : List ℕ) (ended : Status) (ws : List Written) (text : List ℕ) →
    AreReadUpTo most_bytes files job.file bytes → given ≡ bytes → HasFleetNetwork job.limit given g → IsFound g job.nodes plan_bytes cert_bytes ended text
    → ws ≡ record { name = job.plan; bytes = plan_bytes } ∷ record { name = job.cert; bytes = cert_bytes } ∷ []
    → Answers (fleet_task job) files (record { status = ended; writes = ws; text = text })
fleet_found job files bytes given g plan_bytes cert_bytes ended ws text read same fleet found written = record {
  bytes = bytes ∷ [];
  read = (read, tt);
  answer = found_answers job bytes ended ws text (let it = subst (λ (bs : List ℕ). HasFleetNetwork job.limit bs g) same fleet in record {
    network = g;
    fleet = it;
    plan_bytes = plan_bytes;
    cert_bytes = cert_bytes;
    found = found;
    judged = accepts job.limit bytes g job.nodes plan_bytes cert_bytes ended text it found;
    written = written;
  });
}

pub both_differ : (job : FleetJob) (plan_bytes cert_bytes : List ℕ) (ws : List Written) → job.plan ≢ job.cert
    → ws ≡ record { name = job.plan; bytes = plan_bytes } ∷ record { name = job.cert; bytes = cert_bytes } ∷ [] → AreDifferent ws
both_differ job plan_bytes cert_bytes ws differ is = subst (λ (xs : List Written). AreDifferent xs) (sym is) ((differ, tt), (tt, tt))
