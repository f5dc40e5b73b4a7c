-- What `check-mixed` finds, and which of its reads failed.
use Rattle.std.proofs.Common.{◌≡◌, ◌∙◌, ℕ, suc, ◌+◌, ◌<◌, List, [], ◌∷◌, ◌++◌, Option, ap, arith, inl, inr, length, refl, subst, sym}
use Rattle.std.proofs.lemmas.List.{append_assoc, length-append, length-map, map-append}
use Rattle.ev_model.specs.Network.{Network}
use Rattle.ev_outside.specs.Shelf.{Files, ShelfState}
use Rattle.job_frame.proofs.FileReads.{some_read}
use Rattle.job_frame.specs.Faults.{FailsReading, HasFailedRead}
use Rattle.job_frame.specs.Task.{Answers, AreRead, AreReadUpTo, Read}
use Rattle.job_frame.specs.declared.status.Status.{Status}
use Rattle.job_frame.specs.declared.status.Status.TheVariants as status
use Rattle.job_frame.specs.Caps.{certificate_read, file_read, most_bytes, most_certificate_bytes}
use Rattle.mixed_model.specs.declared.proof.MixedRoute.{MixedRoute}
use Rattle.mixed_run.proofs.KindReading.{as_many, read_both}
use Rattle.mixed_run.specs.CheckMixedAnswer.{CheckMixedAnswers, HasPlan, IsCheckMixedRefused, check_mixed_task}
use Rattle.command_line.specs.Words.{MixedJob}
use Rattle.mixed_run.specs.KindFiles.{HasKinds, IsKindsRefused, IsMixedRule, kind_reads, mixed_refusal_text}
use Rattle.mixed_run.specs.KindReading.{AreRefused, FailsFile}
use Rattle.mixed_run.specs.declared.refusal.MixedRefusal.{MixedRefusal}

pub check_mixed_found : (job : MixedJob) (files : Option Files) (read : List (List ℕ)) (plan_bytes cert_bytes given : List ℕ) (answered : Status) (text : List ℕ) →
    AreRead files (kind_reads job.files) read → AreReadUpTo most_bytes files job.plan plan_bytes → AreReadUpTo most_certificate_bytes files job.cert cert_bytes → given ≡ cert_bytes
    → CheckMixedAnswers job.limit read plan_bytes given answered text → Answers (check_mixed_task job) files (record { status = answered; writes = []; text = text })
check_mixed_found job files read plan_bytes cert_bytes given answered text are plan cert same answers = record {
  bytes = read ++ plan_bytes ∷ cert_bytes ∷ [];
  read = read_both files (kind_reads job.files) (file_read job.plan ∷ certificate_read job.cert ∷ []) read (plan_bytes ∷ cert_bytes ∷ []) are (plan, (cert, tt));
  answer = record {
    files = read;
    plan_bytes = plan_bytes;
    cert_bytes = cert_bytes;
    are = refl;
    none = refl;
    answers = subst (λ (bs : List ℕ). CheckMixedAnswers job.limit read plan_bytes bs answered text) same answers;
  };
}

-- the line of a refusal, whatever a proof holds
pub refused_by_plan : (job : MixedJob) (files : Option Files) (read : List (List ℕ)) (plan_bytes : List ℕ) (r : MixedRefusal) →
    AreRead files (kind_reads job.files) read → AreReadUpTo most_bytes files job.plan plan_bytes → IsMixedRule r → ((cert_bytes : List ℕ) → IsCheckMixedRefused job.limit read plan_bytes cert_bytes r)
    → Answers (check_mixed_task job) files (record { status = status.Refused; writes = []; text = mixed_refusal_text r })
refused_by_plan job files read plan_bytes r are plan rule first =
    let cert = some_read most_certificate_bytes files job.cert in
    check_mixed_found job files read plan_bytes cert.0 cert.0 status.Refused (mixed_refusal_text r) are plan cert.1 refl
    (record { refusal = r; rule = rule; refused = first cert.0; text_is = refl })

-- a refusal before the plan is read is the answer whatever the plan and the proof hold
pub refused_early : (job : MixedJob) (files : Option Files) (r : MixedRefusal) → AreRefused (IsKindsRefused job.limit) job.files files r
    → Answers (check_mixed_task job) files (record { status = status.Refused; writes = []; text = mixed_refusal_text r })
refused_early job files r is =
    let plan = some_read most_bytes files job.plan in
    refused_by_plan job files is.bytes plan.0 r is.read plan.1 is.rule (λ cert_bytes. inl is.refused)

-- ---- reads that failed

reads_from : (first rest names : List (List ℕ)) (name : List ℕ) (more : List Read) → names ≡ first ++ name ∷ rest →
    kind_reads names ++ more ≡ kind_reads first ++ file_read name ∷ (kind_reads rest ++ more)
reads_from first rest names name more are =
    ap (λ (ns : List (List ℕ)). kind_reads ns ++ more) are
    ∙ ap (λ (rs : List Read). rs ++ more) (map-append file_read first (name ∷ rest))
    ∙ append_assoc (kind_reads first) (file_read name ∷ kind_reads rest) more

fewer : (first rest names : List (List ℕ)) (name : List ℕ) (count : ℕ) → names ≡ first ++ name ∷ rest → count ≡ length (kind_reads first) → count < length names
fewer first rest names name count are is =
    let parts : length names ≡ length first + length (name ∷ rest) = ap (λ (ns : List (List ℕ)). length ns) are ∙ length-append first (name ∷ rest) in
    let same : length (kind_reads first) ≡ length first = length-map first file_read in
    let behind : length (name ∷ rest) ≡ suc (length rest) = refl in
    omega (arith, parts, same, behind, is)

pub file_fails : (job : MixedJob) (before after : ShelfState) → FailsFile job.limit job.files before after → FailsReading (check_mixed_task job) before after
file_fails job before after fails =
    let many = as_many before.files (kind_reads fails.first) fails.read.bytes fails.read.read in
    record {
      first = kind_reads fails.first;
      read = file_read fails.name;
      rest = kind_reads fails.rest ++ file_read job.plan ∷ certificate_read job.cert ∷ [];
      are = reads_from fails.first fails.rest job.files fails.name (file_read job.plan ∷ certificate_read job.cert ∷ []) fails.are;
      bytes = fails.read.bytes;
      are_read = fails.read.read;
      goes_on = inl (record {
        more = fewer fails.first fails.rest job.files fails.name (length fails.read.bytes) fails.are many;
        kinds = fails.kinds;
        networks = fails.read.networks;
      });
      failed = fails.failed;
    }

all_read : (files : Option Files) (names read : List (List ℕ)) → AreRead files (kind_reads names) read → length read ≡ length names
all_read files names read are = as_many files (kind_reads names) read are ∙ length-map names file_read

pub plan_fails : (job : MixedJob) (before after : ShelfState) (read : List (List ℕ)) (kinds : List Network) → AreRead before.files (kind_reads job.files) read → HasKinds job.limit read kinds
    → HasFailedRead before after job.plan → FailsReading (check_mixed_task job) before after
plan_fails job before after read kinds are has failed = record {
  first = kind_reads job.files;
  read = file_read job.plan;
  rest = certificate_read job.cert ∷ [];
  are = refl;
  bytes = read;
  are_read = are;
  goes_on = inr (inl (record { all = all_read before.files job.files read are; kinds = kinds; has = has }));
  failed = failed;
}

pub proof_fails : (job : MixedJob) (before after : ShelfState) (read : List (List ℕ)) (plan_bytes : List ℕ) (kinds : List Network) (plan : Option (List MixedRoute)) →
    AreRead before.files (kind_reads job.files) read → AreReadUpTo most_bytes before.files job.plan plan_bytes → HasPlan job.limit read plan_bytes kinds plan
    → HasFailedRead before after job.cert → FailsReading (check_mixed_task job) before after
proof_fails job before after read plan_bytes kinds plan are planned has failed = record {
  first = kind_reads job.files ++ file_read job.plan ∷ [];
  read = certificate_read job.cert;
  rest = [];
  are = sym (append_assoc (kind_reads job.files) (file_read job.plan ∷ []) (certificate_read job.cert ∷ []));
  bytes = read ++ plan_bytes ∷ [];
  are_read = read_both before.files (kind_reads job.files) (file_read job.plan ∷ []) read (plan_bytes ∷ []) are (planned, tt);
  goes_on = inr (inr (record {
    files = read;
    plan_bytes = plan_bytes;
    are = refl;
    all = all_read before.files job.files read are;
    kinds = kinds;
    plan = plan;
    has = has;
  }));
  failed = failed;
}
