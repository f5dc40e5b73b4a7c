-- What `check-bound` finds, and which of its reads failed.
use Rattle.std.proofs.Common.{◌≡◌, ◌≢◌, ℕ, List, [], ◌∷◌, Option, Result, Ok, Err, IfOk, refl, subst, sym}
use Rattle.command_line.specs.Words.{BoundCheckJob}
use Rattle.ev_model.specs.Network.{Network}
use Rattle.ev_outside.specs.Shelf.{Files, ShelfState}
use Rattle.job_frame.specs.Caps.{certificate_read, file_read, most_bytes, most_certificate_bytes}
use Rattle.evroute_run.specs.CheckBoundAnswer.{CheckBoundAnswers, IsCheckBoundRefused, PutsRejectedBound, check_bound_task, verdict_status}
use Rattle.near_steps.specs.NearFile.{HasNear}
use Rattle.evroute_run.specs.Ended.{IsCheckBoundEnded}
use Rattle.fleet_steps.specs.FleetNetwork.{HasFleetNetwork, IsFleetEnded, IsFleetRefused}
use Rattle.job_frame.specs.declared.answer.Ended.{Ended}
use Rattle.job_frame.specs.declared.answer.Ended.TheVariants.{Refused}
use Rattle.job_frame.proofs.FileReads.{some_read}
use Rattle.job_frame.specs.Faults.{FailsReading, HasFailedRead}
use Rattle.job_frame.specs.Task.{Answers, AreReadUpTo}
use Rattle.job_frame.specs.declared.found.Answer.{Answer}
use Rattle.job_frame.specs.declared.status.Status.{Status}
use Rattle.job_frame.specs.declared.status.Status.TheVariants as status
use Rattle.near_proof.specs.Truth.{IsTrue}
use Rattle.near_proof.specs.Verdicts.{IsVerdict}
use Rattle.near_proof.specs.declared.proof.NearProof.{NearProof}
use Rattle.near_proof.specs.declared.verdict.NearVerdict.{NearVerdict}
use Rattle.near_proof.specs.declared.verdict.NearVerdict.TheVariants as verdict
use Rattle.near_text.specs.VerdictText.{near_verdict_text}
use Rattle.refusal_lines.specs.RefusalText.{IsRule, refusal_text}
use Rattle.refusal_lines.specs.declared.refusal.Refusal.{Refusal}
use Rattle.refusal_lines.specs.declared.refusal.Refusal.TheVariants as refusal
use Rattle.evroute_causes.specs.declared.cause.Cause.{Cause}

-- ---- the answer to a proof that was read

module _ (limit : Option ℕ) (bytes cert_bytes : List ℕ) where
  by_status : (a : Answer Cause) (s : Status) → a.status ≡ s → CheckBoundAnswers limit bytes cert_bytes s a.text.items → CheckBoundAnswers limit bytes cert_bytes a.status a.text.items
  by_status a s is answers = subst (λ (x : Status). CheckBoundAnswers limit bytes cert_bytes x a.text.items) (sym is) answers

  -- the first broken rule of a text
  pub refused_answers : {E : Type 0} (ended : Ended) (refusal : Refusal) (made : Result (Answer Cause) E) → ended ≡ Refused refusal → IsCheckBoundEnded limit bytes cert_bytes ended
      → IfOk made (λ a. a.status ≡ status.Refused) → IfOk made (λ a. a.text.items ≡ refusal_text refusal) → IfOk made (λ a. CheckBoundAnswers limit bytes cert_bytes a.status a.text.items)
  refused_answers {E} ended refusal (Err e) is refused answered text = tt
  refused_answers {E} ended refusal (Ok a) is refused answered text =
      let first : IsRule refusal × IsCheckBoundRefused limit bytes cert_bytes refusal = subst (λ (e : Ended). IsCheckBoundEnded limit bytes cert_bytes e) is refused in
      by_status a status.Refused answered (record { refusal = refusal; rule = first.0; refused = first.1; text_is = text })

  module _ (g : Network) (proof : NearProof) (fleet : HasFleetNetwork limit bytes g) (has : HasNear g cert_bytes proof) (text : List ℕ) where
    rejects : (found : NearVerdict) → found ≢ verdict.Accepted → IsVerdict g proof found → text ≡ near_verdict_text g.denominator proof.bound found → PutsRejectedBound limit bytes cert_bytes text
    rejects found broken rejected text_is = record {
      files = record { network = g; fleet = fleet; proof = proof; has = has };
      found = found;
      broken = broken;
      rejected = rejected;
      text_is = text_is;
    }

    by_verdict : (found : NearVerdict) → IsVerdict g proof found → (found ≡ verdict.Accepted → IsTrue g proof) → text ≡ near_verdict_text g.denominator proof.bound found
        → CheckBoundAnswers limit bytes cert_bytes (verdict_status found) text
    by_verdict verdict.Accepted is shows text_is = record {
      files = record { network = g; fleet = fleet; proof = proof; has = has };
      accepted = is;
      shows = shows refl;
      text_is = text_is;
    }
    by_verdict verdict.Start is shows text_is = rejects verdict.Start (λ same. cc) is text_is
    by_verdict (verdict.Step label node) is shows text_is = rejects (verdict.Step label node) (λ same. cc) is text_is
    by_verdict (verdict.End label) is shows text_is = rejects (verdict.End label) (λ same. cc) is text_is
    by_verdict verdict.Bound is shows text_is = rejects verdict.Bound (λ same. cc) is text_is
    by_verdict (verdict.Tight customer) is shows text_is = rejects (verdict.Tight customer) (λ same. cc) is text_is

    -- a verdict, with its line
    pub puts_verdict : (found : NearVerdict) (answered : Status) → IsVerdict g proof found → (found ≡ verdict.Accepted → IsTrue g proof) → answered ≡ verdict_status found
        → text ≡ near_verdict_text g.denominator proof.bound found → CheckBoundAnswers limit bytes cert_bytes answered text
    puts_verdict found answered is shows status_is text_is =
        subst (λ (s : Status). CheckBoundAnswers limit bytes cert_bytes s text) (sym status_is) (by_verdict found is shows text_is)

-- ---- what the bytes of both files answer

pub check_bound_found : (job : BoundCheckJob) (files : Option Files) (bytes cert_bytes given : List ℕ) (answered : Status) (text : List ℕ) →
    AreReadUpTo most_bytes files job.file bytes → AreReadUpTo most_certificate_bytes files job.cert cert_bytes → given ≡ cert_bytes
    → CheckBoundAnswers job.limit bytes given answered text → Answers (check_bound_task job) files (record { status = answered; writes = []; text = text })
check_bound_found job files bytes cert_bytes given answered text read read_cert same answers = record {
  bytes = bytes ∷ cert_bytes ∷ [];
  read = (read, (read_cert, tt));
  answer = (subst (λ (bs : List ℕ). CheckBoundAnswers job.limit bytes bs answered text) same answers, refl);
}

-- a rule of the instance is broken whatever a proof holds
early_rule : (limit : Option ℕ) (bytes cert_bytes : List ℕ) (r : Refusal) → IsFleetRefused limit bytes r → IsCheckBoundRefused limit bytes cert_bytes r
early_rule limit bytes cert_bytes (refusal.Instance e) is = is
early_rule limit bytes cert_bytes (refusal.Limit given) is = is
early_rule limit bytes cert_bytes (refusal.Customers count) is = is
early_rule limit bytes cert_bytes (refusal.Charge level) is = absurd is
early_rule limit bytes cert_bytes (refusal.Route e) is = absurd is
early_rule limit bytes cert_bytes (refusal.Plan e) is = absurd is
early_rule limit bytes cert_bytes (refusal.Certificate e) is = absurd is
early_rule limit bytes cert_bytes (refusal.Literal e) is = absurd is
early_rule limit bytes cert_bytes refusal.Maker is = absurd is

-- a refusal before the proof is read is the answer whatever the proof holds
pub refused_early : (job : BoundCheckJob) (files : Option Files) (bytes given : List ℕ) (ended : Ended) (refusal : Refusal) →
    AreReadUpTo most_bytes files job.file bytes → given ≡ bytes → ended ≡ Refused refusal → IsFleetEnded job.limit given ended
    → Answers (check_bound_task job) files (record { status = status.Refused; writes = []; text = refusal_text refusal })
refused_early job files bytes given ended refusal read same is refused =
    let cert = some_read most_certificate_bytes files job.cert in
    let here = subst (λ (bs : List ℕ). IsFleetEnded job.limit bs ended) same refused in
    let first : IsRule refusal × IsFleetRefused job.limit bytes refusal = subst (λ (e : Ended). IsFleetEnded job.limit bytes e) is here in
    check_bound_found job files bytes cert.0 cert.0 status.Refused (refusal_text refusal) read cert.1 refl
    (record { refusal = refusal; rule = first.0; refused = early_rule job.limit bytes cert.0 refusal first.1; text_is = refl })

-- ---- a read that failed

pub proof_fails : (job : BoundCheckJob) (before after : ShelfState) (bytes : List ℕ) (g : Network) → AreReadUpTo most_bytes before.files job.file bytes → HasFleetNetwork job.limit bytes g
    → HasFailedRead before after job.cert → FailsReading (check_bound_task job) before after
proof_fails job before after bytes g read fleet failed = record {
  first = file_read job.file ∷ [];
  read = certificate_read job.cert;
  rest = [];
  are = refl;
  bytes = bytes ∷ [];
  are_read = (read, tt);
  goes_on = (g, fleet);
  failed = failed;
}
