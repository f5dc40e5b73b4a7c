-- The causes of the statuses of `fixed` exclude each other.
use Rattle.std.proofs.Common.{◌≡◌, ◌∙◌, ℕ, ◌<◌, ◌≤◌, List, [], ◌∷◌, Option, None, Some, Ok, Err, arith, refl, subst, sym}
use Rattle.command_line.specs.Words.{FixedJob}
use Rattle.command_line.specs.declared.Options.{Options}
use Rattle.ev_model.specs.Fastest.{HasNoPlan}
use Rattle.ev_model.specs.Network.{Network, node_count}
use Rattle.ev_text.proofs.Results.{Err-ne-Ok, Ok-injective}
use Rattle.job_frame.proofs.OneStatus.{ExcludeEachOther, IsPlain, lawful, nothing_excludes}
use Rattle.job_frame.specs.Lawful.{IsLawful}
use Rattle.job_frame.specs.Task.{Outcome}
use Rattle.refusal_lines.specs.RefusalText.{IsRule}
use Rattle.refusal_lines.specs.declared.refusal.Refusal.{Refusal}
use Rattle.refusal_lines.specs.declared.refusal.Refusal.TheVariants as refusal
use Rattle.route_plan.proofs.Routes.{is_unbroken}
use Rattle.route_plan.proofs.Spelled.{reads_what_is_spelled}
use Rattle.route_plan.specs.RouteRules.{route_fault, route_in}
use Rattle.route_plan.specs.RouteWords.{nodes_in}
use Rattle.job_frame.proofs.LimitedNetworks.{one_limited, refused_has_none}
use Rattle.evroute_run.specs.FixedAnswer.{FixedAnswers, IsRefused, IsTask, PutsInfeasible, PutsPlan, fixed_answers, fixed_task, start_of}
use Rattle.job_frame.specs.declared.status.Status.{Status}
use Rattle.job_frame.specs.declared.status.Status.TheVariants as status

read_as : (g : Network) (word route : List ℕ) (options : Options) (bytes : List ℕ) → IsTask options word bytes g route → route_in (node_count g) word ≡ Ok route
read_as g word route options bytes task =
    let nodes : nodes_in word ≡ Ok route = reads_what_is_spelled word route task.spelled in
    let unbroken : route_fault (node_count g) route ≡ None = is_unbroken g route task.is_route task.short in
    rw (nodes, unbroken) refl

pub same_network : (options : Options) (word bytes : List ℕ) (g h : Network) (r s : List ℕ) → IsTask options word bytes g r → IsTask options word bytes h s → g ≡ h
same_network options word bytes g h r s p q = one_limited options.limit bytes g h p.start.network q.start.network

pub same_route : (options : Options) (word bytes : List ℕ) (g h : Network) (r s : List ℕ) → IsTask options word bytes g r → IsTask options word bytes h s → r ≡ s
same_route options word bytes g h r s p q =
    Ok-injective r s (sym (reads_what_is_spelled word r p.spelled) ∙ reads_what_is_spelled word s q.spelled)

charge_within_not : (g : Network) (charge : Option ℕ) (level : ℕ) → charge ≡ Some level → g.capacity < level → start_of g charge ≤ g.capacity → ⊥
charge_within_not g charge level is past within =
    let fits : level ≤ g.capacity = subst (λ (c : Option ℕ). start_of g c ≤ g.capacity) is within in
    omega (arith, past, fits)

pub refused_is_no_task : (options : Options) (word bytes : List ℕ) (g : Network) (route : List ℕ) (r : Refusal) →
    IsTask options word bytes g route → IsRule r → IsRefused options word bytes r → ⊥
refused_is_no_task options word bytes g route (refusal.Instance e) task rule first =
    refused_has_none options.limit bytes (refusal.Instance e) g rule first task.start.network
refused_is_no_task options word bytes g route (refusal.Limit limit) task rule past =
    refused_has_none options.limit bytes (refusal.Limit limit) g rule past task.start.network
refused_is_no_task options word bytes g route (refusal.Charge level) task rule (h, network, is, past) =
    let same : h ≡ g = one_limited options.limit bytes h g network task.start.network in
    charge_within_not g options.charge level is (subst (λ (x : Network). x.capacity < level) same past) task.start.within
refused_is_no_task options word bytes g route (refusal.Route e) task rule (h, start, fault) =
    let same : h ≡ g = one_limited options.limit bytes h g start.network task.start.network in
    let read : route_in (node_count g) word ≡ Ok route = read_as g word route options bytes task in
    Err-ne-Ok e route (sym (subst (λ (x : Network). route_in (node_count x) word ≡ Err e) same fault) ∙ read)
refused_is_no_task options word bytes g route (refusal.Customers count) task rule is = absurd is
refused_is_no_task options word bytes g route (refusal.Plan e) task rule is = absurd is
refused_is_no_task options word bytes g route (refusal.Certificate e) task rule is = absurd is
refused_is_no_task options word bytes g route (refusal.Literal e) task rule is = absurd is
refused_is_no_task options word bytes g route refusal.Maker task rule is = absurd is

plan_is_some : (options : Options) (word bytes text other : List ℕ) → PutsPlan options word bytes text → PutsInfeasible options word bytes other → ⊥
plan_is_some options word bytes text other p q =
    let network : q.network ≡ p.network = same_network options word bytes q.network p.network q.route p.route q.task p.task in
    let nodes : q.route ≡ p.route = same_route options word bytes q.network p.network q.route p.route q.task p.task in
    let none : HasNoPlan p.network p.route (start_of p.network options.charge) =
    subst (λ (r : List ℕ). HasNoPlan p.network r (start_of p.network options.charge)) nodes
    (subst (λ (x : Network). HasNoPlan x q.route (start_of x options.charge)) network q.none) in
    none 1 p.stops p.fastest.feasible p.fastest.follows

pub FixedCause : Options → List ℕ → List ℕ → Status → Type 0
FixedCause options word bytes s = (text : List ℕ) × FixedAnswers options word bytes s text

fixed_answered : (options : Options) (word bytes : List ℕ) (s : Status) → FixedCause options word bytes s → IsPlain s
unfolding FixedCause
fixed_answered options word bytes status.Done p = tt
fixed_answered options word bytes status.Negative p = tt
fixed_answered options word bytes status.Refused p = tt
fixed_answered options word bytes status.Words p = absurd p.1
fixed_answered options word bytes status.Fault p = absurd p.1
fixed_answered options word bytes status.Memory p = absurd p.1
fixed_answered options word bytes status.Stopped p = absurd p.1

fixed_exclude : (options : Options) (word bytes : List ℕ) → ExcludeEachOther (FixedCause options word bytes)
unfolding FixedCause
fixed_exclude options word bytes = record {
  answered = fixed_answered options word bytes;
  done_negative = λ p q. plan_is_some options word bytes p.0 q.0 p.1 q.1;
  done_refused = λ p q. refused_is_no_task options word bytes p.1.network p.1.route q.1.refusal p.1.task q.1.rule q.1.refused;
  negative_refused = λ p q. refused_is_no_task options word bytes p.1.network p.1.route q.1.refusal p.1.task q.1.rule q.1.refused;
}

pub caused : (options : Options) (word bytes : List ℕ) (s : Status) (text : List ℕ) → FixedAnswers options word bytes s text → FixedCause options word bytes s
unfolding FixedCause
caused options word bytes s text is = (text, is)

abbrev pub fixed_cause : FixedJob → List (List ℕ) → Status → Type 0
fixed_cause job (bytes ∷ []) s = FixedCause job.options job.route bytes s
fixed_cause job other s = ⊥

fixed_has : (job : FixedJob) (bytes : List (List ℕ)) (o : Outcome) → fixed_answers job bytes o → fixed_cause job bytes o.status
unfolding FixedCause
fixed_has job (bytes ∷ []) o is = (o.text, is.0)
fixed_has job [] o is = absurd is
fixed_has job (bytes ∷ more ∷ others) o is = absurd is

pub fixed_each : (job : FixedJob) (bytes : List (List ℕ)) → ExcludeEachOther (fixed_cause job bytes)
fixed_each job (bytes ∷ []) = fixed_exclude job.options job.route bytes
fixed_each job [] = nothing_excludes
fixed_each job (bytes ∷ more ∷ others) = nothing_excludes

pub fixed_lawful : (job : FixedJob) → IsLawful (fixed_task job)
fixed_lawful job = lawful (fixed_task job) (fixed_cause job) (fixed_has job) (fixed_each job)
