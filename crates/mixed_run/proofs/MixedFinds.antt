-- What `mixed` finds, once a search has found a plan or none and a proof; and which of its reads
-- failed.
use Rattle.std.proofs.Common.{◌≡◌, ◌∙◌, ℕ, ◌≤◌, List, [], ◌∷◌, Option, None, Some, ap, length, refl, subst, sym}
use Rattle.std.proofs.lemmas.List.{map-append}
use Rattle.certificate_parts.specs.Limits.{most_bytes as most_certificate_bytes}
use Rattle.command_line.specs.JobValue.{IsMixedJob, mixed_value}
use Rattle.command_line.specs.Words.{MixedJob}
use Rattle.command_line.specs.declared.MixedWords.{MixedWords}
use Rattle.ev_model.specs.Network.{Network}
use Rattle.ev_outside.specs.Shelf.{Files, ShelfState}
use Rattle.job_frame.specs.Faults.{FailsReading}
use Rattle.job_frame.specs.Task.{Answers, AreRead, IsAnswered}
use Rattle.job_frame.specs.Writes.{AreDifferent, Written}
use Rattle.job_frame.specs.declared.status.Status.{Status}
use Rattle.job_frame.specs.declared.status.Status.TheVariants as status
use Rattle.job_frame.specs.Caps.{file_read}
use Rattle.mixed_fleet.specs.Plans.{cost_held}
use Rattle.mixed_run.proofs.Different.{first_differ}
use Rattle.mixed_run.proofs.Found.{held_fits, held_is_valid}
use Rattle.mixed_run.specs.CheckMixedAnswer.{HasProof}
use Rattle.mixed_run.specs.KindFiles.{HasKinds, IsKindsRefused, kind_reads, mixed_refusal_text}
use Rattle.mixed_run.specs.KindReading.{AreRefused, FailsFile}
use Rattle.mixed_run.specs.MixedAnswer.{AcceptsMixed, IsMixedFound, MixedAnswers, PutsMixedFound, mixed_status, mixed_task}
use Rattle.mixed_run.specs.declared.refusal.MixedRefusal.{MixedRefusal}

pub file_fails : (job : MixedJob) (before after : ShelfState) → FailsFile job.limit job.files before after → FailsReading (mixed_task job) before after
file_fails job before after fails = record {
  first = kind_reads fails.first;
  read = file_read fails.name;
  rest = kind_reads fails.rest;
  are = ap (λ (ns : List (List ℕ)). kind_reads ns) fails.are ∙ map-append file_read fails.first (fails.name ∷ fails.rest);
  bytes = fails.read.bytes;
  are_read = fails.read.read;
  goes_on = (fails.kinds, fails.read.networks);
  failed = fails.failed;
}

pub kinds_refused : (job : MixedJob) (files : Option Files) (r : MixedRefusal) → AreRefused (IsKindsRefused job.limit) job.files files r
    → Answers (mixed_task job) files (record { status = status.Refused; writes = []; text = mixed_refusal_text r })
kinds_refused job files r is = record {
  bytes = is.bytes;
  read = is.read;
  answer = record { refusal = r; rule = is.rule; refused = is.refused; none = refl; text_is = refl };
}

-- ---- the status of what was found

IsFoundStatus : Status → Type 0
IsFoundStatus status.Done = Unit {0}
IsFoundStatus status.Negative = Unit {0}
IsFoundStatus other = ⊥

is_found_status : (bound : Option ℕ) → IsFoundStatus (mixed_status bound)
unfolding IsFoundStatus
is_found_status None = tt
is_found_status (Some b) = tt

found_status : (kinds : List Network) (plan_bytes cert_bytes : List ℕ) (ended : Status) (text : List ℕ) → IsMixedFound kinds plan_bytes cert_bytes ended text → IsFoundStatus ended
found_status kinds plan_bytes cert_bytes ended text found = subst IsFoundStatus (sym found.status_is) (is_found_status found.outcome.proof.bound)

of_found : (job : MixedJob) (files : List (List ℕ)) (ended : Status) (ws : List Written) (text : List ℕ) → PutsMixedFound job files ended ws text → IsFoundStatus ended
of_found job files ended ws text p = found_status p.kinds p.plan_bytes p.cert_bytes ended text p.found

pub found_answers : (job : MixedJob) (files : List (List ℕ)) (ended : Status) (ws : List Written) (text : List ℕ) → PutsMixedFound job files ended ws text → MixedAnswers job files ended ws text
unfolding IsFoundStatus
found_answers job files status.Done ws text p = p
found_answers job files status.Negative ws text p = p
found_answers job files status.Refused ws text p = absurd (of_found job files status.Refused ws text p)
found_answers job files status.Stopped ws text p = absurd (of_found job files status.Stopped ws text p)
found_answers job files status.Words ws text p = absurd (of_found job files status.Words ws text p)
found_answers job files status.Fault ws text p = absurd (of_found job files status.Fault ws text p)
found_answers job files status.Memory ws text p = absurd (of_found job files status.Memory ws text p)

answered : (ended : Status) → IsFoundStatus ended → IsAnswered ended
unfolding IsFoundStatus
answered status.Done is = tt
answered status.Negative is = tt
answered status.Refused is = tt
answered status.Stopped is = tt
answered status.Words is = absurd is
answered status.Fault is = absurd is
answered status.Memory is = absurd is

pub found_is_answered : (kinds : List Network) (plan_bytes cert_bytes : List ℕ) (ended : Status) (text : List ℕ) → IsMixedFound kinds plan_bytes cert_bytes ended text → IsAnswered ended
found_is_answered kinds plan_bytes cert_bytes ended text found = answered ended (found_status kinds plan_bytes cert_bytes ended text found)

-- ---- the plan and the proof that were found

-- `check-mixed` accepts what is written
accepts : (limit : Option ℕ) (files : List (List ℕ)) (kinds : List Network) (plan_bytes cert_bytes : List ℕ) (ended : Status) (text : List ℕ) → HasKinds limit files kinds
    → (found : IsMixedFound kinds plan_bytes cert_bytes ended text) → AcceptsMixed limit files kinds found.outcome plan_bytes cert_bytes
accepts limit files kinds plan_bytes cert_bytes ended text has found =
    let o = found.outcome in
    let read : length cert_bytes ≤ most_certificate_bytes → HasProof kinds cert_bytes o.proof =
    subst (λ (bs : List ℕ). length bs ≤ most_certificate_bytes → HasProof kinds bs o.proof) (sym found.cert_is) found.read_back in
    λ short_plan short. record {
      holds = record {
        kinds = kinds;
        plan = o.plan;
        has = record { has = has; spelled = record { within = short_plan; fits = held_fits kinds o.plan found.is.held; text = found.plan_is } };
        proof = o.proof;
        proof_is = read short;
      };
      cost = cost_held kinds o.plan;
      valid = held_is_valid kinds o.plan found.is.held;
      accepted = found.is.proof_is.accepted;
      shows = found.is.proof_is.truth;
      text_is = refl;
    }

pub mixed_found : (job : MixedJob) (files : Option Files) (read : List (List ℕ)) (kinds : List Network) (plan_bytes cert_bytes : List ℕ) (ended : Status) (ws : List Written) (text : List ℕ) →
    AreRead files (kind_reads job.files) read → HasKinds job.limit read kinds → IsMixedFound kinds plan_bytes cert_bytes ended text
    → ws ≡ record { name = job.plan; bytes = plan_bytes } ∷ record { name = job.cert; bytes = cert_bytes } ∷ []
    → Answers (mixed_task job) files (record { status = ended; writes = ws; text = text })
mixed_found job files read kinds plan_bytes cert_bytes ended ws text are has found written = record {
  bytes = read;
  read = are;
  answer = found_answers job read ended ws text
      (record { kinds = kinds; has = has; plan_bytes = plan_bytes; cert_bytes = cert_bytes; found = found; judged = accepts job.limit read kinds plan_bytes cert_bytes ended text has found; written = written });
}

pub both_differ : (w : MixedWords) (plan_bytes cert_bytes : List ℕ) (ws : List Written) → IsMixedJob w
    → ws ≡ record { name = (mixed_value w).plan; bytes = plan_bytes } ∷ record { name = (mixed_value w).cert; bytes = cert_bytes } ∷ [] → AreDifferent ws
both_differ w plan_bytes cert_bytes ws is same =
    let job = mixed_value w in
    subst (λ (xs : List Written). AreDifferent xs) (sym same) ((first_differ job.plan job.cert job.files is.different, tt), (tt, tt))
