-- The causes of the statuses of `check` exclude each other.
use Rattle.std.proofs.Common.{◌≡◌, ◌∙◌, ℕ, List, [], ◌∷◌, Option, Err, ap, arith, subst, sym}
use Rattle.bound_certificate.specs.CertificateIn.{certificate_in}
use Rattle.bound_certificate.specs.Ranges.{customer_count}
use Rattle.bound_certificate.specs.Written.{written}
use Rattle.bound_certificate.specs.declared.certificate.Certificate.{Certificate}
use Rattle.certificate_check.specs.Accepted.{IsAccepted}
use Rattle.command_line.specs.Words.{CheckJob}
use Rattle.ev_model.specs.Network.{Network}
use Rattle.ev_text.proofs.Results.{Err-ne-Ok}
use Rattle.job_frame.proofs.OneStatus.{ExcludeEachOther, IsPlain, lawful, nothing_excludes}
use Rattle.job_frame.specs.Lawful.{IsLawful}
use Rattle.job_frame.specs.Task.{Outcome}
use Rattle.refusal_lines.specs.RefusalText.{IsRule}
use Rattle.plan_writer.specs.declared.check.Judgement.{Judgement}
use Rattle.plan_writer.specs.declared.check.Judgement.TheVariants as judgement
use Rattle.refusal_lines.specs.declared.refusal.Refusal.{Refusal}
use Rattle.refusal_lines.specs.declared.refusal.Refusal.TheVariants as refusal
use Rattle.route_plan.proofs.PlanLaws.{fleet_plan_is_spelled}
use Rattle.route_plan.specs.declared.plan.FleetPlan.{FleetPlan}
use Rattle.evroute_run.proofs.AcceptedCertificates.{accepted_is_no_rejection, accepted_same}
use Rattle.fleet_steps.proofs.Instances.{same_fleet}
use Rattle.fleet_steps.proofs.Plans.{same_plan, valid_breaks_none}
use Rattle.job_frame.proofs.LimitedNetworks.{one_limited, refused_has_none}
use Rattle.evroute_run.proofs.OneCertificate.{AreSame, one_certificate}
use Rattle.evroute_run.specs.CheckAnswer.{CheckAnswers, Holds, IsCertificateOf, IsCheckRefused, IsRejection, PutsAccepted, PutsRejected, check_answers, check_task}
use Rattle.fleet_steps.specs.PlanFile.{IsValid}
use Rattle.job_frame.specs.declared.status.Status.{Status}
use Rattle.job_frame.specs.declared.status.Status.TheVariants as status

-- what the files hold breaks no rule of a text
refused_holds_not : (limit : Option ℕ) (bytes plan_bytes cert_bytes : List ℕ) (h : Holds limit bytes plan_bytes cert_bytes) (r : Refusal) →
    IsRule r → IsCheckRefused limit bytes plan_bytes cert_bytes r → ⊥
refused_holds_not limit bytes plan_bytes cert_bytes h (refusal.Instance e) rule first =
    refused_has_none limit bytes (refusal.Instance e) h.network rule first h.fleet.network.network
refused_holds_not limit bytes plan_bytes cert_bytes h (refusal.Limit given) rule past =
    refused_has_none limit bytes (refusal.Limit given) h.network rule past h.fleet.network.network
refused_holds_not limit bytes plan_bytes cert_bytes h (refusal.Customers count) rule (g, network, is, many) =
    let same : g ≡ h.network = one_limited limit bytes g h.network network h.fleet.network.network in
    let counts : count ≡ customer_count h.network = is ∙ ap (λ (x : Network). customer_count x) same in
    omega (arith, counts, many, h.fleet.network.few)
refused_holds_not limit bytes plan_bytes cert_bytes h (refusal.Plan e) rule (g, other, fault) =
    Err-ne-Ok e h.plan (sym fault ∙ (fleet_plan_is_spelled plan_bytes h.plan).1 h.fleet.spelled)
refused_holds_not limit bytes plan_bytes cert_bytes h (refusal.Certificate e) rule (g, plan, fleet, fault) =
    let same : g ≡ h.network = same_fleet limit bytes g h.network fleet.network h.fleet.network in
    let none : certificate_in h.network cert_bytes ≡ Err e = subst (λ (x : Network). certificate_in x cert_bytes ≡ Err e) same fault in
    Err-ne-Ok e (written h.network h.certificate) (sym none ∙ h.certificate_is.read)
refused_holds_not limit bytes plan_bytes cert_bytes h (refusal.Charge level) rule is = absurd is
refused_holds_not limit bytes plan_bytes cert_bytes h (refusal.Route e) rule is = absurd is
refused_holds_not limit bytes plan_bytes cert_bytes h (refusal.Literal e) rule is = absurd is
refused_holds_not limit bytes plan_bytes cert_bytes h refusal.Maker rule is = absurd is

no_rejection : (g : Network) (plan : Option FleetPlan) (c d : Certificate) (cost : Option ℕ) (found : Judgement) → IsValid g plan cost → IsAccepted g c → AreSame c d → IsRejection g plan d found → ⊥
no_rejection g plan c d cost (judgement.Accepted other bound) valid accepted same rejected = rejected
no_rejection g plan c d cost (judgement.Plan fault) valid accepted same broken = valid_breaks_none g plan cost fault valid broken
no_rejection g plan c d cost (judgement.Certificate found) valid accepted same (other, (broken, first)) =
    accepted_is_no_rejection g d found (accepted_same g c d same accepted) broken first

accepted_is_unbroken : (limit : Option ℕ) (bytes plan_bytes cert_bytes text other : List ℕ) → PutsAccepted limit bytes plan_bytes cert_bytes text
    → PutsRejected limit bytes plan_bytes cert_bytes other → ⊥
accepted_is_unbroken limit bytes plan_bytes cert_bytes text other p q =
    let network : q.files.network ≡ p.files.network = same_fleet limit bytes q.files.network p.files.network q.files.fleet.network p.files.fleet.network in
    let plan : q.files.plan ≡ p.files.plan = same_plan plan_bytes q.files.plan p.files.plan q.files.fleet.spelled p.files.fleet.spelled in
    let is : IsCertificateOf p.files.network cert_bytes q.files.certificate =
    subst (λ (x : Network). IsCertificateOf x cert_bytes q.files.certificate) network q.files.certificate_is in
    let rejected : IsRejection p.files.network p.files.plan q.files.certificate q.found =
    subst (λ (x : Option FleetPlan). IsRejection p.files.network x q.files.certificate q.found) plan
    (subst (λ (x : Network). IsRejection x q.files.plan q.files.certificate q.found) network q.rejected) in
    no_rejection p.files.network p.files.plan p.files.certificate q.files.certificate p.cost q.found p.valid p.accepted
    (one_certificate p.files.network cert_bytes p.files.certificate q.files.certificate p.files.certificate_is is) rejected

CheckCause : Option ℕ → List ℕ → List ℕ → List ℕ → Status → Type 0
CheckCause limit bytes plan_bytes cert_bytes s = (text : List ℕ) × CheckAnswers limit bytes plan_bytes cert_bytes s text

check_answered : (limit : Option ℕ) (bytes plan_bytes cert_bytes : List ℕ) (s : Status) → CheckCause limit bytes plan_bytes cert_bytes s → IsPlain s
unfolding CheckCause
check_answered limit bytes plan_bytes cert_bytes status.Done p = tt
check_answered limit bytes plan_bytes cert_bytes status.Negative p = tt
check_answered limit bytes plan_bytes cert_bytes status.Refused p = tt
check_answered limit bytes plan_bytes cert_bytes status.Words p = absurd p.1
check_answered limit bytes plan_bytes cert_bytes status.Fault p = absurd p.1
check_answered limit bytes plan_bytes cert_bytes status.Memory p = absurd p.1
check_answered limit bytes plan_bytes cert_bytes status.Stopped p = absurd p.1

check_exclude : (limit : Option ℕ) (bytes plan_bytes cert_bytes : List ℕ) → ExcludeEachOther (CheckCause limit bytes plan_bytes cert_bytes)
unfolding CheckCause
check_exclude limit bytes plan_bytes cert_bytes = record {
  answered = check_answered limit bytes plan_bytes cert_bytes;
  done_negative = λ p q. accepted_is_unbroken limit bytes plan_bytes cert_bytes p.0 q.0 p.1 q.1;
  done_refused = λ p q. refused_holds_not limit bytes plan_bytes cert_bytes p.1.files q.1.refusal q.1.rule q.1.refused;
  negative_refused = λ p q. refused_holds_not limit bytes plan_bytes cert_bytes p.1.files q.1.refusal q.1.rule q.1.refused;
}

abbrev check_cause : CheckJob → List (List ℕ) → Status → Type 0
check_cause job (bytes ∷ plan_bytes ∷ cert_bytes ∷ []) s = CheckCause job.limit bytes plan_bytes cert_bytes s
check_cause job other s = ⊥

check_has : (job : CheckJob) (bytes : List (List ℕ)) (o : Outcome) → check_answers job bytes o → check_cause job bytes o.status
unfolding CheckCause
check_has job (bytes ∷ plan_bytes ∷ cert_bytes ∷ []) o is = (o.text, is.0)
check_has job [] o is = absurd is
check_has job (bytes ∷ []) o is = absurd is
check_has job (bytes ∷ plan_bytes ∷ []) o is = absurd is
check_has job (bytes ∷ plan_bytes ∷ cert_bytes ∷ more ∷ others) o is = absurd is

check_each : (job : CheckJob) (bytes : List (List ℕ)) → ExcludeEachOther (check_cause job bytes)
check_each job (bytes ∷ plan_bytes ∷ cert_bytes ∷ []) = check_exclude job.limit bytes plan_bytes cert_bytes
check_each job [] = nothing_excludes
check_each job (bytes ∷ []) = nothing_excludes
check_each job (bytes ∷ plan_bytes ∷ []) = nothing_excludes
check_each job (bytes ∷ plan_bytes ∷ cert_bytes ∷ more ∷ others) = nothing_excludes

pub check_lawful : (job : CheckJob) → IsLawful (check_task job)
check_lawful job = lawful (check_task job) (check_cause job) (check_has job) (check_each job)
