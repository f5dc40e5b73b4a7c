-- The causes of the statuses of `check` exclude each other.
use Rattle.std.proofs.Common.{◌≡◌, ◌∙◌, ◌⊎◌, ℕ, List, [], ◌∷◌, Option, inl, inr, subst, sym}
use Rattle.std.proofs.lemmas.Bool.{false≢true}
use Rattle.ev_model.specs.Network.{Network}
use Rattle.fleet_steps.proofs.PlanFiles as plans
use Rattle.fleet_steps.proofs.Plans.{valid_breaks_none}
use Rattle.fleet_steps.specs.PlanFile.{BreaksFirst, HoldsPlan}
use Rattle.gap_words.specs.Words.{CheckGap}
use Rattle.job_frame.proofs.OneStatus.{ExcludeEachOther, IsPlain, lawful, nothing_excludes}
use Rattle.job_frame.specs.Lawful.{IsLawful}
use Rattle.job_frame.specs.Task.{Outcome}
use Rattle.job_frame.specs.declared.status.Status.{Status}
use Rattle.job_frame.specs.declared.status.Status.TheVariants as status
use Rattle.refusal_lines.specs.RefusalText.{IsRule}
use Rattle.refusal_lines.specs.declared.refusal.Refusal.{Refusal}
use Rattle.refusal_lines.specs.declared.refusal.Refusal.TheVariants as refusal
use Rattle.route_plan.specs.declared.plan.FleetPlan.{FleetPlan}
use Rattle.tree_text.proofs.BoundLaws.{accepted_keeps, no_fault, one_proof}
use Rattle.tree_text.specs.BoundTexts.{HasProof, IsUnread}
use Rattle.tree_text.specs.BoundVerdicts.{IsBoundVerdict}
use Rattle.tree_text.specs.declared.bounds.proof.BoundProof.{BoundProof}
use Rattle.tree_text.specs.declared.bounds.reading.BoundText.{BoundText}
use Rattle.tree_text.specs.declared.bounds.reading.BoundText.TheVariants.{Customers, Text}
use Rattle.evgap_run.specs.CheckAnswer.{CheckAnswers, Holds, IsCheckRefused, IsNoProof, PutsAccepted, PutsBrokenPlan, PutsBrokenProof, check_answers, check_task}

module _ (limit : Option ℕ) (bytes plan_bytes proof_bytes : List ℕ) where
  -- what the first two files hold
  abbrev plan_held : Holds limit bytes plan_bytes proof_bytes → HoldsPlan limit bytes plan_bytes
  plan_held h = record { network = h.network; plan = h.plan; has = h.fleet }

  same_network : (h k : Holds limit bytes plan_bytes proof_bytes) → k.network ≡ h.network
  same_network h k = plans.same_network limit bytes plan_bytes (plan_held h) (plan_held k)

  -- what is accepted has no broken plan
  accepted_plan : (text told : List ℕ) → PutsAccepted limit bytes plan_bytes proof_bytes text → PutsBrokenPlan limit bytes plan_bytes proof_bytes told → ⊥
  accepted_plan text told p q =
      let there = subst (λ (g : Network). BreaksFirst g q.files.plan q.fault) (same_network p.files q.files) q.broken in
      let plan : q.files.plan ≡ p.files.plan = plans.same_held limit bytes plan_bytes (plan_held p.files) (plan_held q.files) in
      let here = subst (λ (x : Option FleetPlan). BreaksFirst p.files.network x q.fault) plan there in
      valid_breaks_none p.files.network p.files.plan p.cost q.fault p.valid here

  -- nor a broken proof
  accepted_proof : (text told : List ℕ) → PutsAccepted limit bytes plan_bytes proof_bytes text → PutsBrokenProof limit bytes plan_bytes proof_bytes told → ⊥
  accepted_proof text told p q =
      let network = same_network p.files q.files in
      let has = subst (λ (g : Network). HasProof g proof_bytes q.files.proof) network q.files.has in
      let proof : q.files.proof ≡ p.files.proof = one_proof p.files.network proof_bytes q.files.proof p.files.proof has p.files.has in
      let there = subst (λ (g : Network). IsBoundVerdict g q.files.proof q.found) network q.rejected in
      let here = subst (λ (x : BoundProof). IsBoundVerdict p.files.network x q.found) proof there in
      false≢true (sym q.broken ∙ accepted_keeps p.files.network p.files.proof q.found p.accepted here)

  accepted_is_unbroken : (text told : List ℕ) → PutsAccepted limit bytes plan_bytes proof_bytes text
      → PutsBrokenPlan limit bytes plan_bytes proof_bytes told ⊎ PutsBrokenProof limit bytes plan_bytes proof_bytes told → ⊥
  accepted_is_unbroken text told p (inl plan) = accepted_plan text told p plan
  accepted_is_unbroken text told p (inr proof) = accepted_proof text told p proof

  rejected_holds : (text : List ℕ) → PutsBrokenPlan limit bytes plan_bytes proof_bytes text ⊎ PutsBrokenProof limit bytes plan_bytes proof_bytes text → Holds limit bytes plan_bytes proof_bytes
  rejected_holds text (inl plan) = plan.files
  rejected_holds text (inr proof) = proof.files

  -- a proof that they hold has no fault
  read_has_no_fault : (h : Holds limit bytes plan_bytes proof_bytes) (fault : BoundText) → IsNoProof limit bytes plan_bytes proof_bytes fault → ⊥
  read_has_no_fault h fault (g, plan, has, unread) =
      let same = plans.same_network limit bytes plan_bytes (plan_held h) (record { network = g; plan = plan; has = has }) in
      no_fault h.network proof_bytes h.proof fault h.has (subst (λ (x : Network). IsUnread x proof_bytes fault) same unread)

  -- what the files hold breaks no rule of a text
  refused_holds_not : (h : Holds limit bytes plan_bytes proof_bytes) (r : Refusal) → IsRule r → IsCheckRefused limit bytes plan_bytes proof_bytes r → ⊥
  refused_holds_not h (refusal.Customers count) rule is = read_has_no_fault h (Customers count) is
  refused_holds_not h (refusal.Certificate e) rule is = read_has_no_fault h (Text e) is
  refused_holds_not h (refusal.Instance e) rule is = plans.refused_holds_not limit bytes plan_bytes (plan_held h) (refusal.Instance e) rule is
  refused_holds_not h (refusal.Limit given) rule is = plans.refused_holds_not limit bytes plan_bytes (plan_held h) (refusal.Limit given) rule is
  refused_holds_not h (refusal.Plan e) rule is = plans.refused_holds_not limit bytes plan_bytes (plan_held h) (refusal.Plan e) rule is
  refused_holds_not h (refusal.Charge level) rule is = absurd is
  refused_holds_not h (refusal.Route e) rule is = absurd is
  refused_holds_not h (refusal.Literal e) rule is = absurd is
  refused_holds_not h refusal.Maker rule is = absurd is

-- ---- the causes

CheckCause : Option ℕ → List ℕ → List ℕ → List ℕ → Status → Type 0
CheckCause limit bytes plan_bytes proof_bytes s = (text : List ℕ) × CheckAnswers limit bytes plan_bytes proof_bytes s text

answered : (limit : Option ℕ) (bytes plan_bytes proof_bytes : List ℕ) (s : Status) → CheckCause limit bytes plan_bytes proof_bytes s → IsPlain s
unfolding CheckCause
answered limit bytes plan_bytes proof_bytes status.Done p = tt
answered limit bytes plan_bytes proof_bytes status.Negative p = tt
answered limit bytes plan_bytes proof_bytes status.Refused p = tt
answered limit bytes plan_bytes proof_bytes status.Words p = absurd p.1
answered limit bytes plan_bytes proof_bytes status.Fault p = absurd p.1
answered limit bytes plan_bytes proof_bytes status.Memory p = absurd p.1
answered limit bytes plan_bytes proof_bytes status.Stopped p = absurd p.1

exclude : (limit : Option ℕ) (bytes plan_bytes proof_bytes : List ℕ) → ExcludeEachOther (CheckCause limit bytes plan_bytes proof_bytes)
unfolding CheckCause
exclude limit bytes plan_bytes proof_bytes = record {
  answered = answered limit bytes plan_bytes proof_bytes;
  done_negative = λ p q. accepted_is_unbroken limit bytes plan_bytes proof_bytes p.0 q.0 p.1 q.1;
  done_refused = λ p q. refused_holds_not limit bytes plan_bytes proof_bytes p.1.files q.1.refusal q.1.rule q.1.refused;
  negative_refused = λ p q.
      refused_holds_not limit bytes plan_bytes proof_bytes (rejected_holds limit bytes plan_bytes proof_bytes p.0 p.1) q.1.refusal q.1.rule q.1.refused;
}

abbrev cause : CheckGap → List (List ℕ) → Status → Type 0
cause job (bytes ∷ plan_bytes ∷ proof_bytes ∷ []) s = CheckCause job.limit bytes plan_bytes proof_bytes s
cause job other s = ⊥

has : (job : CheckGap) (bytes : List (List ℕ)) (o : Outcome) → check_answers job bytes o → cause job bytes o.status
unfolding CheckCause
has job (bytes ∷ plan_bytes ∷ proof_bytes ∷ []) o is = (o.text, is.0)
has job [] o is = absurd is
has job (bytes ∷ []) o is = absurd is
has job (bytes ∷ plan_bytes ∷ []) o is = absurd is
has job (bytes ∷ plan_bytes ∷ proof_bytes ∷ more ∷ others) o is = absurd is

each : (job : CheckGap) (bytes : List (List ℕ)) → ExcludeEachOther (cause job bytes)
each job (bytes ∷ plan_bytes ∷ proof_bytes ∷ []) = exclude job.limit bytes plan_bytes proof_bytes
each job [] = nothing_excludes
each job (bytes ∷ []) = nothing_excludes
each job (bytes ∷ plan_bytes ∷ []) = nothing_excludes
each job (bytes ∷ plan_bytes ∷ proof_bytes ∷ more ∷ others) = nothing_excludes

pub check_lawful : (job : CheckGap) → IsLawful (check_task job)
check_lawful job = lawful (check_task job) (cause job) (has job) (each job)
