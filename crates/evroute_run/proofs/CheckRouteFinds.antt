-- What `check-route` finds, and which of its reads failed.
use Rattle.std.proofs.Common.{◌≡◌, ◌≢◌, ℕ, List, [], ◌∷◌, Option, None, Result, Ok, Err, IfOk, refl, subst, sym}
use Rattle.command_line.specs.Words.{ProofJob}
use Rattle.command_line.specs.declared.Options.{Options}
use Rattle.ev_model.specs.Network.{Network}
use Rattle.ev_outside.specs.Shelf.{Files, ShelfState}
use Rattle.job_frame.proofs.FileReads.{some_read}
use Rattle.job_frame.specs.Faults.{FailsReading, HasFailedRead}
use Rattle.job_frame.specs.Task.{Answers, AreReadUpTo, IsAnswered}
use Rattle.job_frame.specs.declared.found.Answer.{Answer}
use Rattle.job_frame.specs.declared.status.Status.{Status}
use Rattle.job_frame.specs.declared.status.Status.TheVariants as status
use Rattle.refusal_lines.specs.RefusalText.{IsRule, refusal_text}
use Rattle.refusal_lines.specs.declared.refusal.Refusal.{Refusal}
use Rattle.refusal_lines.specs.declared.refusal.Refusal.TheVariants as refusal
use Rattle.route_proof.specs.ProofIn.{SpellsProof, proof_in}
use Rattle.route_proof.specs.VerdictText.{verdict_text}
use Rattle.route_proof.specs.Closed.{IsAccepted, IsTrue}
use Rattle.route_proof.specs.Verdicts.{IsVerdict}
use Rattle.route_proof.specs.declared.proof.RouteProof.{RouteProof}
use Rattle.route_proof.specs.declared.verdict.RouteVerdict.{RouteVerdict}
use Rattle.route_proof.specs.declared.verdict.RouteVerdict.TheVariants as verdict
use Rattle.job_frame.specs.Caps.{certificate_read, file_read, most_bytes, most_certificate_bytes}
use Rattle.evroute_run.specs.CheckRouteAnswer.{CheckRouteAnswers, IsCheckRouteRefused, check_route_task, listed_time}
use Rattle.evroute_run.specs.Ended.{IsCheckRouteEnded, IsEnded}
use Rattle.evroute_run.specs.FixedAnswer.{IsRefused, IsTask, start_of}
use Rattle.job_frame.specs.declared.answer.Ended.{Ended}
use Rattle.job_frame.specs.declared.answer.Ended.TheVariants.{Refused}
use Rattle.evroute_causes.specs.declared.cause.Cause.{Cause}

-- ---- the answer to a proof that was read

module _ (options : Options) (word bytes cert_bytes : List ℕ) where
  by_status : (a : Answer Cause) (s : Status) → a.status ≡ s → CheckRouteAnswers options word bytes cert_bytes s a.text.items → CheckRouteAnswers options word bytes cert_bytes a.status a.text.items
  by_status a s is answers = subst (λ (x : Status). CheckRouteAnswers options word bytes cert_bytes x a.text.items) (sym is) answers

  -- the first broken rule of a text
  pub refused_answers : {E : Type 0} (ended : Ended) (refusal : Refusal) (made : Result (Answer Cause) E) → ended ≡ Refused refusal → IsCheckRouteEnded options word bytes cert_bytes ended
      → IfOk made (λ a. a.status ≡ status.Refused) → IfOk made (λ a. a.text.items ≡ refusal_text refusal) → IfOk made (λ a. CheckRouteAnswers options word bytes cert_bytes a.status a.text.items)
  refused_answers {E} ended refusal (Err e) is refused answered text = tt
  refused_answers {E} ended refusal (Ok a) is refused answered text =
      let first : IsRule refusal × IsCheckRouteRefused options word bytes cert_bytes refusal = subst (λ (e : Ended). IsCheckRouteEnded options word bytes cert_bytes e) is refused in
      by_status a status.Refused answered (record { refusal = refusal; rule = first.0; refused = first.1; text_is = text })

  module _ (g : Network) (route : List ℕ) (level : ℕ) (proof : RouteProof) (task : IsTask options word bytes g route) (start : level ≡ start_of g options.charge)
      (read : proof_in g route cert_bytes ≡ Ok proof) (spelled : SpellsProof g route cert_bytes proof) where
    pub puts_accepted : {E : Type 0} (made : Result (Answer Cause) E) → IsAccepted (record { network = g; route = route; start = level }) proof
        → IsTrue (record { network = g; route = route; start = level }) proof.plan → IfOk made (λ a. a.status ≡ status.Done)
        → IfOk made (λ a. a.text.items ≡ verdict_text g.denominator (listed_time g level proof.plan) verdict.Accepted)
        → IfOk made (λ a. CheckRouteAnswers options word bytes cert_bytes a.status a.text.items)
    puts_accepted {E} (Err e) accepted shows answered text = tt
    puts_accepted {E} (Ok a) accepted shows answered text =
        by_status a status.Done answered (record {
          files = record { network = g; route = route; task = task; proof = proof; read = read; spelled = spelled };
          accepted = subst (λ (n : ℕ). IsAccepted (record { network = g; route = route; start = n }) proof) start accepted;
          shows = subst (λ (n : ℕ). IsTrue (record { network = g; route = route; start = n }) proof.plan) start shows;
          text_is = subst (λ (n : ℕ). a.text.items ≡ verdict_text g.denominator (listed_time g n proof.plan) verdict.Accepted) start text;
        })

    pub puts_rejected : {E : Type 0} (made : Result (Answer Cause) E) (found : RouteVerdict) → found ≢ verdict.Accepted → IsVerdict (record { network = g; route = route; start = level }) proof found
        → IfOk made (λ a. a.status ≡ status.Negative) → IfOk made (λ a. a.text.items ≡ verdict_text g.denominator None found)
        → IfOk made (λ a. CheckRouteAnswers options word bytes cert_bytes a.status a.text.items)
    puts_rejected {E} (Err e) found broken rejected answered text = tt
    puts_rejected {E} (Ok a) found broken rejected answered text =
        by_status a status.Negative answered (record {
          files = record { network = g; route = route; task = task; proof = proof; read = read; spelled = spelled };
          found = found;
          broken = broken;
          rejected = subst (λ (n : ℕ). IsVerdict (record { network = g; route = route; start = n }) proof found) start rejected;
          text_is = text;
        })

-- a rejection is an answer
pub negative_is_answered : {E : Type 0} (made : Result (Answer Cause) E) → IfOk made (λ a. a.status ≡ status.Negative) → IfOk made (λ a. IsAnswered a.status)
negative_is_answered {E} (Err e) is = tt
negative_is_answered {E} (Ok a) is = subst (λ (s : Status). IsAnswered s) (sym is) tt

-- ---- what the bytes of both files answer

pub check_route_found : (job : ProofJob) (files : Option Files) (bytes cert_bytes given : List ℕ) (answered : Status) (text : List ℕ) →
    AreReadUpTo most_bytes files job.file bytes → AreReadUpTo most_certificate_bytes files job.cert cert_bytes → given ≡ cert_bytes
    → CheckRouteAnswers job.options job.route bytes given answered text → Answers (check_route_task job) files (record { status = answered; writes = []; text = text })
check_route_found job files bytes cert_bytes given answered text read read_cert same answers = record {
  bytes = bytes ∷ cert_bytes ∷ [];
  read = (read, (read_cert, tt));
  answer = (subst (λ (bs : List ℕ). CheckRouteAnswers job.options job.route bytes bs answered text) same answers, refl);
}

-- a rule of `fixed` is broken whatever a proof holds
early_rule : (options : Options) (word bytes cert_bytes : List ℕ) (r : Refusal) → IsRefused options word bytes r → IsCheckRouteRefused options word bytes cert_bytes r
early_rule options word bytes cert_bytes (refusal.Instance e) is = is
early_rule options word bytes cert_bytes (refusal.Limit given) is = is
early_rule options word bytes cert_bytes (refusal.Charge level) is = is
early_rule options word bytes cert_bytes (refusal.Route e) is = is
early_rule options word bytes cert_bytes (refusal.Customers count) is = absurd is
early_rule options word bytes cert_bytes (refusal.Plan e) is = absurd is
early_rule options word bytes cert_bytes (refusal.Certificate e) is = absurd is
early_rule options word bytes cert_bytes (refusal.Literal e) is = absurd is
early_rule options word bytes cert_bytes refusal.Maker is = absurd is

-- a refusal before the proof is read is the answer whatever the proof holds
pub refused_early : (job : ProofJob) (files : Option Files) (bytes given word : List ℕ) (ended : Ended) (refusal : Refusal) →
    AreReadUpTo most_bytes files job.file bytes → given ≡ bytes → word ≡ job.route → ended ≡ Refused refusal → IsEnded job.options word given ended
    → Answers (check_route_task job) files (record { status = status.Refused; writes = []; text = refusal_text refusal })
refused_early job files bytes given word ended refusal read same spelled is refused =
    let cert = some_read most_certificate_bytes files job.cert in
    let here = subst (λ (bs : List ℕ). IsEnded job.options word bs ended) same refused in
    let worded = subst (λ (w : List ℕ). IsEnded job.options w bytes ended) spelled here in
    let first : IsRule refusal × IsRefused job.options job.route bytes refusal = subst (λ (e : Ended). IsEnded job.options job.route bytes e) is worded in
    check_route_found job files bytes cert.0 cert.0 status.Refused (refusal_text refusal) read cert.1 refl
    (record { refusal = refusal; rule = first.0; refused = early_rule job.options job.route bytes cert.0 refusal first.1; text_is = refl })

-- ---- a read that failed

pub proof_fails : (job : ProofJob) (before after : ShelfState) (bytes : List ℕ) (g : Network) (route : List ℕ) → AreReadUpTo most_bytes before.files job.file bytes → IsTask job.options job.route bytes g route
    → HasFailedRead before after job.cert → FailsReading (check_route_task job) before after
proof_fails job before after bytes g route read task failed = record {
  first = file_read job.file ∷ [];
  read = certificate_read job.cert;
  rest = [];
  are = refl;
  bytes = bytes ∷ [];
  are_read = (read, tt);
  goes_on = (g, (route, task));
  failed = failed;
}
