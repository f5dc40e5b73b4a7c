-- What `check` finds, and which of its reads failed.
use Rattle.std.proofs.Common.{◌≡◌, ℕ, List, [], ◌∷◌, Option, refl, subst}
use Rattle.command_line.specs.Words.{CheckJob}
use Rattle.ev_model.specs.Network.{Network}
use Rattle.ev_outside.specs.Shelf.{Files, ShelfState}
use Rattle.job_frame.specs.Caps.{certificate_read, file_read, most_bytes, most_certificate_bytes}
use Rattle.evroute_run.specs.CheckAnswer.{CheckAnswers, check_task}
use Rattle.fleet_steps.specs.PlanFile.{HasFleet}
use Rattle.fleet_steps.specs.FleetNetwork.{HasFleetNetwork}
use Rattle.evroute_run.specs.Ended.{IsCheckEnded}
use Rattle.job_frame.specs.declared.answer.Ended.{Ended}
use Rattle.job_frame.specs.declared.answer.Ended.TheVariants.{Refused}
use Rattle.job_frame.proofs.FileReads.{some_read}
use Rattle.job_frame.specs.Faults.{FailsReading, HasFailedRead}
use Rattle.job_frame.specs.Task.{Answers, AreReadUpTo}
use Rattle.job_frame.specs.declared.status.Status.{Status}
use Rattle.job_frame.specs.declared.status.Status.TheVariants as status
use Rattle.refusal_lines.specs.RefusalText.{refusal_text}
use Rattle.refusal_lines.specs.declared.refusal.Refusal.{Refusal}
use Rattle.route_plan.specs.declared.plan.FleetPlan.{FleetPlan}

pub check_found : (job : CheckJob) (files : Option Files) (bytes plan_bytes cert_bytes given : List ℕ) (answered : Status) (text : List ℕ) →
    AreReadUpTo most_bytes files job.file bytes → AreReadUpTo most_bytes files job.plan plan_bytes → AreReadUpTo most_certificate_bytes files job.cert cert_bytes → given ≡ cert_bytes
    → CheckAnswers job.limit bytes plan_bytes given answered text → Answers (check_task job) files (record { status = answered; writes = []; text = text })
check_found job files bytes plan_bytes cert_bytes given answered text read read_plan read_cert same answers = record {
  bytes = bytes ∷ plan_bytes ∷ cert_bytes ∷ [];
  read = (read, (read_plan, (read_cert, tt)));
  answer = (subst (λ (bs : List ℕ). CheckAnswers job.limit bytes plan_bytes bs answered text) same answers, refl);
}

-- the line of a refusal, whatever a certificate holds
refused_line : (job : CheckJob) (files : Option Files) (bytes plan_bytes : List ℕ) (refusal : Refusal) →
    AreReadUpTo most_bytes files job.file bytes → AreReadUpTo most_bytes files job.plan plan_bytes → ((cert_bytes : List ℕ) → IsCheckEnded job.limit bytes plan_bytes cert_bytes (Refused refusal))
    → Answers (check_task job) files (record { status = status.Refused; writes = []; text = refusal_text refusal })
refused_line job files bytes plan_bytes refusal read read_plan first =
    let cert = some_read most_certificate_bytes files job.cert in
    check_found job files bytes plan_bytes cert.0 cert.0 status.Refused (refusal_text refusal) read read_plan cert.1 refl
    (record { refusal = refusal; rule = (first cert.0).0; refused = (first cert.0).1; text_is = refl })

-- a refusal before the plan is read is the answer whatever the plan and the certificate hold
pub refused_early : (job : CheckJob) (files : Option Files) (bytes given : List ℕ) (ended : Ended) (refusal : Refusal) →
    AreReadUpTo most_bytes files job.file bytes → given ≡ bytes → ended ≡ Refused refusal → ((plan_bytes cert_bytes : List ℕ) → IsCheckEnded job.limit given plan_bytes cert_bytes ended)
    → Answers (check_task job) files (record { status = status.Refused; writes = []; text = refusal_text refusal })
refused_early job files bytes given ended refusal read same is refused =
    let plan = some_read most_bytes files job.plan in
    refused_line job files bytes plan.0 refusal read plan.1
    (λ cert_bytes. subst (λ (e : Ended). IsCheckEnded job.limit bytes plan.0 cert_bytes e) is
    (subst (λ (bs : List ℕ). IsCheckEnded job.limit bs plan.0 cert_bytes ended) same (refused plan.0 cert_bytes)))

-- a refusal before the certificate is read is the answer whatever the certificate holds
pub refused_by_plan : (job : CheckJob) (files : Option Files) (bytes plan_bytes given : List ℕ) (ended : Ended) (refusal : Refusal) →
    AreReadUpTo most_bytes files job.file bytes → AreReadUpTo most_bytes files job.plan plan_bytes → given ≡ plan_bytes → ended ≡ Refused refusal
    → ((cert_bytes : List ℕ) → IsCheckEnded job.limit bytes given cert_bytes ended)
    → Answers (check_task job) files (record { status = status.Refused; writes = []; text = refusal_text refusal })
refused_by_plan job files bytes plan_bytes given ended refusal read read_plan same is refused =
    refused_line job files bytes plan_bytes refusal read read_plan
    (λ cert_bytes. subst (λ (e : Ended). IsCheckEnded job.limit bytes plan_bytes cert_bytes e) is
    (subst (λ (bs : List ℕ). IsCheckEnded job.limit bytes bs cert_bytes ended) same (refused cert_bytes)))

-- ---- reads that failed

pub plan_fails : (job : CheckJob) (before after : ShelfState) (bytes : List ℕ) (g : Network) → AreReadUpTo most_bytes before.files job.file bytes → HasFleetNetwork job.limit bytes g
    → HasFailedRead before after job.plan → FailsReading (check_task job) before after
plan_fails job before after bytes g read fleet failed = record {
  first = file_read job.file ∷ [];
  read = file_read job.plan;
  rest = certificate_read job.cert ∷ [];
  are = refl;
  bytes = bytes ∷ [];
  are_read = (read, tt);
  goes_on = (g, fleet);
  failed = failed;
}

pub certificate_fails : (job : CheckJob) (before after : ShelfState) (bytes plan_bytes : List ℕ) (g : Network) (plan : Option FleetPlan) →
    AreReadUpTo most_bytes before.files job.file bytes → AreReadUpTo most_bytes before.files job.plan plan_bytes → HasFleet job.limit bytes plan_bytes g plan
    → HasFailedRead before after job.cert → FailsReading (check_task job) before after
certificate_fails job before after bytes plan_bytes g plan read read_plan fleet failed = record {
  first = file_read job.file ∷ file_read job.plan ∷ [];
  read = certificate_read job.cert;
  rest = [];
  are = refl;
  bytes = bytes ∷ plan_bytes ∷ [];
  are_read = (read, (read_plan, tt));
  goes_on = (g, (plan, fleet));
  failed = failed;
}
