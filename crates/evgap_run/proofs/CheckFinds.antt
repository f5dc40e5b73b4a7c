-- What `check` finds, and which of its reads failed.
use Rattle.std.proofs.Common.{◌≡◌, ℕ, List, [], ◌∷◌, Option, Result, Ok, Err, IfOk, inl, inr, refl, subst, sym}
use Rattle.ev_model.specs.Network.{Network}
use Rattle.ev_outside.specs.Shelf.{Files, ShelfState}
use Rattle.fleet_steps.specs.PlanFile.{HasPlan, IsPlanEnded}
use Rattle.gap_words.specs.Words.{CheckGap}
use Rattle.job_frame.proofs.Endings.{rule_of}
use Rattle.job_frame.proofs.FileReads.{some_read}
use Rattle.job_frame.specs.Faults.{FailsReading, HasFailedRead}
use Rattle.job_frame.specs.Task.{Answers, AreReadUpTo}
use Rattle.job_frame.specs.declared.found.Answer.{Answer}
use Rattle.job_frame.specs.declared.status.Status.{Status}
use Rattle.job_frame.specs.declared.status.Status.TheVariants as status
use Rattle.job_frame.specs.Caps.{certificate_read, file_read, most_bytes, most_certificate_bytes}
use Rattle.job_frame.specs.Ended.{IsNetworkEnded, IsRuleOrMemory}
use Rattle.job_frame.specs.LimitedNetwork.{HasNetwork, IsNetworkRefused}
use Rattle.job_frame.specs.declared.answer.Ended.{Ended}
use Rattle.job_frame.specs.declared.answer.Ended.TheVariants.{Refused}
use Rattle.refusal_lines.specs.RefusalText.{IsRule, refusal_text}
use Rattle.refusal_lines.specs.declared.refusal.Refusal.{Refusal}
use Rattle.refusal_lines.specs.declared.refusal.Refusal.TheVariants as refusal
use Rattle.route_plan.specs.declared.plan.FleetPlan.{FleetPlan}
use Rattle.tree_text.specs.BoundProofs.{bound_of}
use Rattle.tree_text.specs.BoundTexts.{HasProof}
use Rattle.tree_text.specs.declared.bounds.proof.BoundProof.{BoundProof}
use Rattle.tree_text.specs.declared.bounds.reading.BoundText.{BoundText}
use Rattle.tree_text.specs.declared.bounds.reading.BoundText.TheVariants.{Customers, Text}
use Rattle.evgap_run.specs.CheckAnswer.{CheckAnswers, Holds, IsCheckRefused, IsNoProof, check_task}
use Rattle.evgap_run.specs.ProofFile.{IsProofEnded, refusal_of}
use Rattle.evgap_run.specs.Judged.{IsJudgementOf, judged_status, judgement_text}
use Rattle.evgap_run.specs.declared.judging.Judgement.{Judgement}
use Rattle.evgap_run.specs.declared.judging.Judgement.TheVariants as judgement
use Rattle.evgap_run.specs.declared.cause.Cause.{Cause}

-- ---- refusals

-- a rule of the instance is broken whatever the other files hold
early_rule : (limit : Option ℕ) (bytes plan_bytes proof_bytes : List ℕ) (r : Refusal) → IsNetworkRefused limit bytes r → IsCheckRefused limit bytes plan_bytes proof_bytes r
early_rule limit bytes plan_bytes proof_bytes (refusal.Instance e) is = is
early_rule limit bytes plan_bytes proof_bytes (refusal.Limit given) is = is
early_rule limit bytes plan_bytes proof_bytes (refusal.Customers count) is = absurd is
early_rule limit bytes plan_bytes proof_bytes (refusal.Charge level) is = absurd is
early_rule limit bytes plan_bytes proof_bytes (refusal.Route e) is = absurd is
early_rule limit bytes plan_bytes proof_bytes (refusal.Plan e) is = absurd is
early_rule limit bytes plan_bytes proof_bytes (refusal.Certificate e) is = absurd is
early_rule limit bytes plan_bytes proof_bytes (refusal.Literal e) is = absurd is
early_rule limit bytes plan_bytes proof_bytes refusal.Maker is = absurd is

plan_rule : (limit : Option ℕ) (bytes plan_bytes proof_bytes : List ℕ) (g : Network) (r : Refusal) → HasNetwork limit bytes g → IsPlanEnded plan_bytes (Refused r) → IsCheckRefused limit bytes plan_bytes proof_bytes r
plan_rule limit bytes plan_bytes proof_bytes g r network (fault, is, first) =
    subst (λ (x : Refusal). IsCheckRefused limit bytes plan_bytes proof_bytes x) (sym is) (g, network, first)

fault_rule : (limit : Option ℕ) (bytes plan_bytes proof_bytes : List ℕ) (fault : BoundText) → IsNoProof limit bytes plan_bytes proof_bytes fault → IsCheckRefused limit bytes plan_bytes proof_bytes (refusal_of fault)
fault_rule limit bytes plan_bytes proof_bytes (Customers count) is = is
fault_rule limit bytes plan_bytes proof_bytes (Text e) is = is

proof_rule : (limit : Option ℕ) (bytes plan_bytes proof_bytes : List ℕ) (g : Network) (plan : Option FleetPlan) (r : Refusal) → HasPlan limit bytes plan_bytes g plan → IsProofEnded g proof_bytes (Refused r)
    → IsCheckRefused limit bytes plan_bytes proof_bytes r
proof_rule limit bytes plan_bytes proof_bytes g plan r has (fault, is, first) =
    subst (λ (x : Refusal). IsCheckRefused limit bytes plan_bytes proof_bytes x) (sym is) (fault_rule limit bytes plan_bytes proof_bytes fault (g, plan, has, first))

-- ---- the answer to a proof

module _ (limit : Option ℕ) (bytes plan_bytes proof_bytes : List ℕ) where
  by_status : (a : Answer Cause) (s : Status) → a.status ≡ s → CheckAnswers limit bytes plan_bytes proof_bytes s a.text.items → CheckAnswers limit bytes plan_bytes proof_bytes a.status a.text.items
  by_status a s is answers = subst (λ (x : Status). CheckAnswers limit bytes plan_bytes proof_bytes x a.text.items) (sym is) answers

  -- the first broken rule of a proof's text
  pub refused_answers : {E : Type 0} (g : Network) (plan : Option FleetPlan) (ended : Ended) (r : Refusal) (made : Result (Answer Cause) E) → HasPlan limit bytes plan_bytes g plan → ended ≡ Refused r → IsRuleOrMemory ended
      → IsProofEnded g proof_bytes ended → IfOk made (λ a. a.status ≡ status.Refused) → IfOk made (λ a. a.text.items ≡ refusal_text r)
      → IfOk made (λ a. CheckAnswers limit bytes plan_bytes proof_bytes a.status a.text.items)
  refused_answers {E} g plan ended r (Err e) fleet is rule refused answered text = tt
  refused_answers {E} g plan ended r (Ok a) fleet is rule refused answered text =
      let first = subst (λ (e : Ended). IsProofEnded g proof_bytes e) is refused in
      by_status a status.Refused answered
      (record { refusal = r; rule = rule_of ended r is rule; refused = proof_rule limit bytes plan_bytes proof_bytes g plan r fleet first; text_is = text })

  -- what is judged of a plan and a proof, with its lines
  pub report_answers : {E : Type 0} (g : Network) (plan : Option FleetPlan) (p : BoundProof) (found : Judgement) (made : Result (Answer Cause) E) → HasPlan limit bytes plan_bytes g plan → HasProof g proof_bytes p
      → IsJudgementOf g plan p found → IfOk made (λ a. a.status ≡ judged_status found) → IfOk made (λ a. a.text.items ≡ judgement_text g.denominator (bound_of p) found)
      → IfOk made (λ a. CheckAnswers limit bytes plan_bytes proof_bytes a.status a.text.items)
  report_answers {E} g plan p found (Err e) fleet has judged answered text = tt
  report_answers {E} g plan p found (Ok a) fleet has judged answered text = by_status a (judged_status found) answered (by found judged text)
    where
      files : Holds limit bytes plan_bytes proof_bytes
      files = record { network = g; plan = plan; fleet = fleet; proof = p; has = has }

      by : (found : Judgement) → IsJudgementOf g plan p found → a.text.items ≡ judgement_text g.denominator (bound_of p) found
          → CheckAnswers limit bytes plan_bytes proof_bytes (judged_status found) a.text.items
      by (judgement.Accepted cost bound) (valid, accepted, shows, bound_is) text = record {
        files = files;
        cost = cost;
        valid = valid;
        accepted = accepted;
        shows = shows;
        text_is = subst (λ (b : Option ℕ). a.text.items ≡ judgement_text g.denominator (bound_of p) (judgement.Accepted cost b)) bound_is text;
      }
      by (judgement.Plan fault) broken text = inl (record { files = files; fault = fault; broken = broken; text_is = text })
      by (judgement.Proof found) (valid, broken, rejected) text =
          inr (record { files = files; cost = valid.0; valid = valid.1; found = found; broken = broken; rejected = rejected; text_is = text })

-- ---- what the bytes of the three files answer

pub check_found : (job : CheckGap) (files : Option Files) (bytes plan_bytes proof_bytes given : List ℕ) (answered : Status) (text : List ℕ) →
    AreReadUpTo most_bytes files job.file bytes → AreReadUpTo most_bytes files job.plan plan_bytes → AreReadUpTo most_certificate_bytes files job.proof proof_bytes → given ≡ proof_bytes
    → CheckAnswers job.limit bytes plan_bytes given answered text → Answers (check_task job) files (record { status = answered; writes = []; text = text })
check_found job files bytes plan_bytes proof_bytes given answered text read read_plan read_proof same answers = record {
  bytes = bytes ∷ plan_bytes ∷ proof_bytes ∷ [];
  read = (read, (read_plan, (read_proof, tt)));
  answer = (subst (λ (bs : List ℕ). CheckAnswers job.limit bytes plan_bytes bs answered text) same answers, refl);
}

-- the line of a refusal, whatever a proof holds
refused_line : (job : CheckGap) (files : Option Files) (bytes plan_bytes : List ℕ) (r : Refusal) →
    AreReadUpTo most_bytes files job.file bytes → AreReadUpTo most_bytes files job.plan plan_bytes → IsRule r → ((proof_bytes : List ℕ) → IsCheckRefused job.limit bytes plan_bytes proof_bytes r)
    → Answers (check_task job) files (record { status = status.Refused; writes = []; text = refusal_text r })
refused_line job files bytes plan_bytes r read read_plan rule first =
    let proof = some_read most_certificate_bytes files job.proof in
    check_found job files bytes plan_bytes proof.0 proof.0 status.Refused (refusal_text r) read read_plan proof.1 refl
    (record { refusal = r; rule = rule; refused = first proof.0; text_is = refl })

-- a refusal before the plan is read is the answer whatever the plan and the proof hold
pub refused_early : (job : CheckGap) (files : Option Files) (bytes given : List ℕ) (ended : Ended) (r : Refusal) →
    AreReadUpTo most_bytes files job.file bytes → given ≡ bytes → ended ≡ Refused r → IsNetworkEnded job.limit given ended
    → Answers (check_task job) files (record { status = status.Refused; writes = []; text = refusal_text r })
refused_early job files bytes given ended r read same is refused =
    let plan = some_read most_bytes files job.plan in
    let here = subst (λ (bs : List ℕ). IsNetworkEnded job.limit bs ended) same refused in
    let first : IsRule r × IsNetworkRefused job.limit bytes r = subst (λ (e : Ended). IsNetworkEnded job.limit bytes e) is here in
    refused_line job files bytes plan.0 r read plan.1 first.0 (λ proof_bytes. early_rule job.limit bytes plan.0 proof_bytes r first.1)

-- a refusal before the proof is read is the answer whatever the proof holds
pub refused_by_plan : (job : CheckGap) (files : Option Files) (bytes plan_bytes given : List ℕ) (g : Network) (ended : Ended) (r : Refusal) →
    AreReadUpTo most_bytes files job.file bytes → AreReadUpTo most_bytes files job.plan plan_bytes → HasNetwork job.limit bytes g → given ≡ plan_bytes → ended ≡ Refused r
    → IsRuleOrMemory ended → IsPlanEnded given ended → Answers (check_task job) files (record { status = status.Refused; writes = []; text = refusal_text r })
refused_by_plan job files bytes plan_bytes given g ended r read read_plan fleet same is rule refused =
    let first = subst (λ (e : Ended). IsPlanEnded plan_bytes e) is (subst (λ (bs : List ℕ). IsPlanEnded bs ended) same refused) in
    refused_line job files bytes plan_bytes r read read_plan (rule_of ended r is rule) (λ proof_bytes. plan_rule job.limit bytes plan_bytes proof_bytes g r fleet first)

-- ---- reads that failed

pub plan_fails : (job : CheckGap) (before after : ShelfState) (bytes : List ℕ) (g : Network) → AreReadUpTo most_bytes before.files job.file bytes → HasNetwork job.limit bytes g
    → HasFailedRead before after job.plan → FailsReading (check_task job) before after
plan_fails job before after bytes g read fleet failed = record {
  first = file_read job.file ∷ [];
  read = file_read job.plan;
  rest = certificate_read job.proof ∷ [];
  are = refl;
  bytes = bytes ∷ [];
  are_read = (read, tt);
  goes_on = (g, fleet);
  failed = failed;
}

pub proof_fails : (job : CheckGap) (before after : ShelfState) (bytes plan_bytes : List ℕ) (g : Network) (plan : Option FleetPlan) →
    AreReadUpTo most_bytes before.files job.file bytes → AreReadUpTo most_bytes before.files job.plan plan_bytes → HasPlan job.limit bytes plan_bytes g plan
    → HasFailedRead before after job.proof → FailsReading (check_task job) before after
proof_fails job before after bytes plan_bytes g plan read read_plan fleet failed = record {
  first = file_read job.file ∷ file_read job.plan ∷ [];
  read = certificate_read job.proof;
  rest = [];
  are = refl;
  bytes = bytes ∷ plan_bytes ∷ [];
  are_read = (read, (read_plan, tt));
  goes_on = (g, (plan, fleet));
  failed = failed;
}
