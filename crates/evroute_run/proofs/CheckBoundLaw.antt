-- The causes of the statuses of `check-bound` exclude each other.
use Rattle.std.proofs.Common.{◌≡◌, ◌∙◌, ℕ, List, [], ◌∷◌, Option, Err, subst, sym}
use Rattle.command_line.specs.Words.{BoundCheckJob}
use Rattle.ev_model.specs.Network.{Network}
use Rattle.ev_text.proofs.Results.{Err-ne-Ok}
use Rattle.fleet_steps.proofs.Instances.{fleet_refused_not, same_fleet}
use Rattle.near_steps.proofs.Nears.{accepted_keeps, one_near}
use Rattle.evroute_run.specs.CheckBoundAnswer.{CheckBoundAnswers, HoldsNear, IsCheckBoundRefused, PutsAcceptedBound, PutsRejectedBound, check_bound_answers, check_bound_task}
use Rattle.near_steps.specs.NearFile.{HasNear}
use Rattle.job_frame.proofs.OneStatus.{ExcludeEachOther, IsPlain, lawful, nothing_excludes}
use Rattle.job_frame.specs.Lawful.{IsLawful}
use Rattle.job_frame.specs.Task.{Outcome}
use Rattle.job_frame.specs.declared.status.Status.{Status}
use Rattle.job_frame.specs.declared.status.Status.TheVariants as status
use Rattle.near_proof.specs.Verdicts.{IsVerdict}
use Rattle.near_proof.specs.declared.proof.NearProof.{NearProof}
use Rattle.near_text.specs.NearIn.{near_in}
use Rattle.near_text.specs.Written.{written_near}
use Rattle.refusal_lines.specs.RefusalText.{IsRule}
use Rattle.refusal_lines.specs.declared.refusal.Refusal.{Refusal}
use Rattle.refusal_lines.specs.declared.refusal.Refusal.TheVariants as refusal

module _ (limit : Option ℕ) (bytes cert_bytes : List ℕ) where
  accepted_is_unbroken : (text told : List ℕ) → PutsAcceptedBound limit bytes cert_bytes text → PutsRejectedBound limit bytes cert_bytes told → ⊥
  accepted_is_unbroken text told p q =
      let network : q.files.network ≡ p.files.network = same_fleet limit bytes q.files.network p.files.network q.files.fleet p.files.fleet in
      let has = subst (λ (g : Network). HasNear g cert_bytes q.files.proof) network q.files.has in
      let proof : q.files.proof ≡ p.files.proof = one_near p.files.network cert_bytes q.files.proof p.files.proof has p.files.has in
      let there = subst (λ (g : Network). IsVerdict g q.files.proof q.found) network q.rejected in
      let here = subst (λ (x : NearProof). IsVerdict p.files.network x q.found) proof there in
      accepted_keeps p.files.network p.files.proof q.found p.accepted q.broken here

  refused_holds_not : (h : HoldsNear limit bytes cert_bytes) (r : Refusal) → IsRule r → IsCheckBoundRefused limit bytes cert_bytes r → ⊥
  refused_holds_not h (refusal.Certificate e) rule (g, fleet, fault) =
      let same : g ≡ h.network = same_fleet limit bytes g h.network fleet h.fleet in
      let none : near_in h.network cert_bytes ≡ Err e = subst (λ (x : Network). near_in x cert_bytes ≡ Err e) same fault in
      Err-ne-Ok e (written_near h.network h.proof) (sym none ∙ h.has.read)
  refused_holds_not h (refusal.Instance e) rule is = fleet_refused_not limit bytes h.network (refusal.Instance e) h.fleet rule is
  refused_holds_not h (refusal.Limit given) rule is = fleet_refused_not limit bytes h.network (refusal.Limit given) h.fleet rule is
  refused_holds_not h (refusal.Customers count) rule is = fleet_refused_not limit bytes h.network (refusal.Customers count) h.fleet rule is
  refused_holds_not h (refusal.Charge level) rule is = absurd is
  refused_holds_not h (refusal.Route e) rule is = absurd is
  refused_holds_not h (refusal.Plan e) rule is = absurd is
  refused_holds_not h (refusal.Literal e) rule is = absurd is
  refused_holds_not h refusal.Maker rule is = absurd is

-- ---- the causes

CheckBoundCause : Option ℕ → List ℕ → List ℕ → Status → Type 0
CheckBoundCause limit bytes cert_bytes s = (text : List ℕ) × CheckBoundAnswers limit bytes cert_bytes s text

answered : (limit : Option ℕ) (bytes cert_bytes : List ℕ) (s : Status) → CheckBoundCause limit bytes cert_bytes s → IsPlain s
unfolding CheckBoundCause
answered limit bytes cert_bytes status.Done p = tt
answered limit bytes cert_bytes status.Negative p = tt
answered limit bytes cert_bytes status.Refused p = tt
answered limit bytes cert_bytes status.Words p = absurd p.1
answered limit bytes cert_bytes status.Fault p = absurd p.1
answered limit bytes cert_bytes status.Memory p = absurd p.1
answered limit bytes cert_bytes status.Stopped p = absurd p.1

exclude : (limit : Option ℕ) (bytes cert_bytes : List ℕ) → ExcludeEachOther (CheckBoundCause limit bytes cert_bytes)
unfolding CheckBoundCause
exclude limit bytes cert_bytes = record {
  answered = answered limit bytes cert_bytes;
  done_negative = λ p q. accepted_is_unbroken limit bytes cert_bytes p.0 q.0 p.1 q.1;
  done_refused = λ p q. refused_holds_not limit bytes cert_bytes p.1.files q.1.refusal q.1.rule q.1.refused;
  negative_refused = λ p q. refused_holds_not limit bytes cert_bytes p.1.files q.1.refusal q.1.rule q.1.refused;
}

abbrev cause : BoundCheckJob → List (List ℕ) → Status → Type 0
cause job (bytes ∷ cert_bytes ∷ []) s = CheckBoundCause job.limit bytes cert_bytes s
cause job other s = ⊥

has : (job : BoundCheckJob) (bytes : List (List ℕ)) (o : Outcome) → check_bound_answers job bytes o → cause job bytes o.status
unfolding CheckBoundCause
has job (bytes ∷ cert_bytes ∷ []) o is = (o.text, is.0)
has job [] o is = absurd is
has job (bytes ∷ []) o is = absurd is
has job (bytes ∷ cert_bytes ∷ more ∷ others) o is = absurd is

each : (job : BoundCheckJob) (bytes : List (List ℕ)) → ExcludeEachOther (cause job bytes)
each job (bytes ∷ cert_bytes ∷ []) = exclude job.limit bytes cert_bytes
each job [] = nothing_excludes
each job (bytes ∷ []) = nothing_excludes
each job (bytes ∷ cert_bytes ∷ more ∷ others) = nothing_excludes

pub check_bound_lawful : (job : BoundCheckJob) → IsLawful (check_bound_task job)
check_bound_lawful job = lawful (check_bound_task job) (cause job) (has job) (each job)
