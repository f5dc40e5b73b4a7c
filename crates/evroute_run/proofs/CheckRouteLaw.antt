-- The causes of the statuses of `check-route` exclude each other.
use Rattle.std.proofs.Common.{◌≡◌, ◌≢◌, ◌∙◌, ℕ, zero, suc, List, [], ◌∷◌, Option, None, Some, Ok, Err, ap, arith, refl, subst, sym}
use Rattle.std.specs.List.{Contains}
use Rattle.std.specs.Prelude.{slice_get}
use Rattle.command_line.specs.Words.{ProofJob}
use Rattle.command_line.specs.declared.Options.{Options}
use Rattle.ev_model.specs.Network.{Network}
use Rattle.ev_text.proofs.Results.{Err-ne-Ok, Ok-injective}
use Rattle.job_frame.proofs.OneStatus.{ExcludeEachOther, IsPlain, lawful, nothing_excludes}
use Rattle.job_frame.specs.Lawful.{IsLawful}
use Rattle.job_frame.specs.Task.{Outcome}
use Rattle.job_frame.specs.declared.status.Status.{Status}
use Rattle.job_frame.specs.declared.status.Status.TheVariants as status
use Rattle.refusal_lines.specs.RefusalText.{IsRule}
use Rattle.refusal_lines.specs.declared.refusal.Refusal.{Refusal}
use Rattle.refusal_lines.specs.declared.refusal.Refusal.TheVariants as refusal
use Rattle.route_proof.specs.ProofIn.{proof_in}
use Rattle.route_plan.proofs.Feasibly.{tells}
use Rattle.route_plan.specs.declared.plan.RoutePlan.{RoutePlan}
use Rattle.route_proof.specs.Broken.{IsBroken, Place, at_home, at_start, at_step}
use Rattle.route_proof.specs.Closed.{AreClosed, HasGoodPlan, IsAccepted, bar}
use Rattle.route_proof.specs.Verdicts.{IsVerdict}
use Rattle.route_proof.specs.declared.proof.RouteLabel.{RouteLabel}
use Rattle.route_proof.specs.declared.proof.RouteProof.{RouteProof}
use Rattle.route_proof.specs.declared.verdict.RouteVerdict.{RouteVerdict}
use Rattle.route_proof.specs.declared.verdict.RouteVerdict.TheVariants as verdict
use Rattle.route_steps.specs.Trips.{Journey}
use Rattle.evroute_run.proofs.FixedLaw.{refused_is_no_task, same_network, same_route}
use Rattle.evroute_run.specs.CheckRouteAnswer.{CheckRouteAnswers, HoldsProof, IsCheckRouteRefused, PutsAcceptedProof, PutsRejectedProof, check_route_answers, check_route_task, journey_of}
use Rattle.evroute_run.specs.FixedAnswer.{IsTask}

-- ---- an accepted proof breaks no rule

of_some : RouteLabel → Option RouteLabel → RouteLabel
of_some d None = d
of_some d (Some l) = l

inside : (xs : List RouteLabel) (n : ℕ) (x : RouteLabel) → slice_get xs n ≡ Some x → Contains xs x
unfolding of_some
inside [] n x is = absurd (grind (arith, is))
inside (y ∷ ys) zero x is = (0, omega arith, ap (of_some x) is)
inside (y ∷ ys) (suc n) x is = let rest = inside ys n x is in (suc rest.0, omega (arith, rest.1), rest.2)

closed_keeps : (t : Journey) (least : ℕ) (labels : List RouteLabel) (at : Place) → AreClosed t least labels → IsBroken t least labels at → ⊥
closed_keeps t least labels at_start closed (some, uncovered) = uncovered (closed.begins some)
closed_keeps t least labels (at_step n node via) closed (l, at, misses) =
    misses.uncovered (closed.step l misses.level misses.stop (inside labels n l at) misses.step misses.on_way misses.below)
closed_keeps t least labels (at_home n) closed (l, at, ends) =
    let within = closed.home l ends.level ends.stop (inside labels n l at) ends.step ends.home in
    let below = ends.below in
    omega (arith, within, below)

good_plan : (t : Journey) (listed : Option RoutePlan) (plan : RoutePlan) → listed ≡ Some plan → HasGoodPlan t listed → HasGoodPlan t (Some plan)
good_plan t listed plan is good = subst (λ (p : Option RoutePlan). HasGoodPlan t p) is good

accepted_keeps : (t : Journey) (p : RouteProof) (v : RouteVerdict) → IsAccepted t p → v ≢ verdict.Accepted → IsVerdict t p v → ⊥
accepted_keeps t p verdict.Accepted accepted other is = other refl
accepted_keeps t p (verdict.Plan fault) accepted other (plan, is, walked) =
    (tells t.network t.start plan.stops (Err fault) walked).infeasible (good_plan t p.plan plan is accepted.plan).0
accepted_keeps t p verdict.Other accepted other (plan, is, feasible, strays) = strays (good_plan t p.plan plan is accepted.plan).1
accepted_keeps t p verdict.Start accepted other first = closed_keeps t (bar t p.plan) p.labels at_start accepted.closed first.1.broken
accepted_keeps t p (verdict.Step label node via) accepted other first = closed_keeps t (bar t p.plan) p.labels (at_step label node via) accepted.closed first.1.broken
accepted_keeps t p (verdict.End label) accepted other first = closed_keeps t (bar t p.plan) p.labels (at_home label) accepted.closed first.1.broken

-- ---- files hold one proof

module _ (options : Options) (word bytes cert_bytes : List ℕ) where
  abbrev Held : Type 0
  Held = HoldsProof options word bytes cert_bytes

  network_is : (h other : Held) → other.network ≡ h.network
  network_is h other = same_network options word bytes other.network h.network other.route h.route other.task h.task

  route_is : (h other : Held) → other.route ≡ h.route
  route_is h other = same_route options word bytes other.network h.network other.route h.route other.task h.task

  read_as : (h : Held) (g : Network) (route : List ℕ) (task : IsTask options word bytes g route) → proof_in g route cert_bytes ≡ Ok h.proof
  read_as h g route task =
      let network : h.network ≡ g = same_network options word bytes h.network g h.route route h.task task in
      let nodes : h.route ≡ route = same_route options word bytes h.network g h.route route h.task task in
      subst (λ (r : List ℕ). proof_in g r cert_bytes ≡ Ok h.proof) nodes (subst (λ (x : Network). proof_in x h.route cert_bytes ≡ Ok h.proof) network h.read)

  proof_is : (h other : Held) → other.proof ≡ h.proof
  proof_is h other = Ok-injective other.proof h.proof (sym (read_as other h.network h.route h.task) ∙ h.read)

  accepted_is_unbroken : (text told : List ℕ) → PutsAcceptedProof options word bytes cert_bytes text → PutsRejectedProof options word bytes cert_bytes told → ⊥
  accepted_is_unbroken text told p q =
      let g : q.files.network ≡ p.files.network = network_is p.files q.files in
      let route : q.files.route ≡ p.files.route = route_is p.files q.files in
      let proof : q.files.proof ≡ p.files.proof = proof_is p.files q.files in
      let there = subst (λ (x : Network). IsVerdict (journey_of options x q.files.route) q.files.proof q.found) g q.rejected in
      let along = subst (λ (r : List ℕ). IsVerdict (journey_of options p.files.network r) q.files.proof q.found) route there in
      let here = subst (λ (x : RouteProof). IsVerdict (journey_of options p.files.network p.files.route) x q.found) proof along in
      accepted_keeps (journey_of options p.files.network p.files.route) p.files.proof q.found p.accepted q.broken here

  refused_holds_not : (h : Held) (r : Refusal) → IsRule r → IsCheckRouteRefused options word bytes cert_bytes r → ⊥
  refused_holds_not h (refusal.Certificate e) rule (g, route, task, fault) = Err-ne-Ok e h.proof (sym fault ∙ read_as h g route task)
  refused_holds_not h (refusal.Instance e) rule is = refused_is_no_task options word bytes h.network h.route (refusal.Instance e) h.task rule is
  refused_holds_not h (refusal.Limit given) rule is = refused_is_no_task options word bytes h.network h.route (refusal.Limit given) h.task rule is
  refused_holds_not h (refusal.Charge level) rule is = refused_is_no_task options word bytes h.network h.route (refusal.Charge level) h.task rule is
  refused_holds_not h (refusal.Route e) rule is = refused_is_no_task options word bytes h.network h.route (refusal.Route e) h.task rule is
  refused_holds_not h (refusal.Customers count) rule is = absurd is
  refused_holds_not h (refusal.Plan e) rule is = absurd is
  refused_holds_not h (refusal.Literal e) rule is = absurd is
  refused_holds_not h refusal.Maker rule is = absurd is

-- ---- the causes

CheckRouteCause : Options → List ℕ → List ℕ → List ℕ → Status → Type 0
CheckRouteCause options word bytes cert_bytes s = (text : List ℕ) × CheckRouteAnswers options word bytes cert_bytes s text

answered : (options : Options) (word bytes cert_bytes : List ℕ) (s : Status) → CheckRouteCause options word bytes cert_bytes s → IsPlain s
unfolding CheckRouteCause
answered options word bytes cert_bytes status.Done p = tt
answered options word bytes cert_bytes status.Negative p = tt
answered options word bytes cert_bytes status.Refused p = tt
answered options word bytes cert_bytes status.Words p = absurd p.1
answered options word bytes cert_bytes status.Fault p = absurd p.1
answered options word bytes cert_bytes status.Memory p = absurd p.1
answered options word bytes cert_bytes status.Stopped p = absurd p.1

exclude : (options : Options) (word bytes cert_bytes : List ℕ) → ExcludeEachOther (CheckRouteCause options word bytes cert_bytes)
unfolding CheckRouteCause
exclude options word bytes cert_bytes = record {
  answered = answered options word bytes cert_bytes;
  done_negative = λ p q. accepted_is_unbroken options word bytes cert_bytes p.0 q.0 p.1 q.1;
  done_refused = λ p q. refused_holds_not options word bytes cert_bytes p.1.files q.1.refusal q.1.rule q.1.refused;
  negative_refused = λ p q. refused_holds_not options word bytes cert_bytes p.1.files q.1.refusal q.1.rule q.1.refused;
}

abbrev cause : ProofJob → List (List ℕ) → Status → Type 0
cause job (bytes ∷ cert_bytes ∷ []) s = CheckRouteCause job.options job.route bytes cert_bytes s
cause job other s = ⊥

has : (job : ProofJob) (bytes : List (List ℕ)) (o : Outcome) → check_route_answers job bytes o → cause job bytes o.status
unfolding CheckRouteCause
has job (bytes ∷ cert_bytes ∷ []) o is = (o.text, is.0)
has job [] o is = absurd is
has job (bytes ∷ []) o is = absurd is
has job (bytes ∷ cert_bytes ∷ more ∷ others) o is = absurd is

each : (job : ProofJob) (bytes : List (List ℕ)) → ExcludeEachOther (cause job bytes)
each job (bytes ∷ cert_bytes ∷ []) = exclude job.options job.route bytes cert_bytes
each job [] = nothing_excludes
each job (bytes ∷ []) = nothing_excludes
each job (bytes ∷ cert_bytes ∷ more ∷ others) = nothing_excludes

pub check_route_lawful : (job : ProofJob) → IsLawful (check_route_task job)
check_route_lawful job = lawful (check_route_task job) (cause job) (has job) (each job)
