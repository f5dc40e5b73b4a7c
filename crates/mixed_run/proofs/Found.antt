-- What is reported of a search for a plan of several kinds of vehicles.
use Rattle.std.proofs.Common.{◌≡◌, ◌∙◌, ◌↔◌, ℕ, ◌*◌, ◌<◌, ◌≤◌, ◌++◌, List, [], Option, None, Some, IfSome, ap, length, refl, subst, sym}
use Rattle.std.proofs.lemmas.List.Elements.{All-weaker}
use Rattle.ev_model.specs.Network.{Network}
use Rattle.fleet_model.specs.Prices.{price_total}
use Rattle.job_frame.specs.declared.status.Status.{Status}
use Rattle.job_frame.specs.declared.status.Status.TheVariants as status
use Rattle.mixed_fleet.specs.Outcome.{IsOutcome}
use Rattle.mixed_fleet.specs.Plans.{cost_held, IsHeld}
use Rattle.mixed_fleet.specs.Proofs.{IsBestProof, IsRootOf}
use Rattle.mixed_fleet.specs.declared.outcome.MixedOutcome.{MixedOutcome}
use Rattle.mixed_model.specs.Accepted.{RootHolds}
use Rattle.mixed_model.specs.Kinds.{first_of}
use Rattle.mixed_model.specs.Meaning.{kind_plans}
use Rattle.mixed_model.specs.Truth.{IsTrueBound, IsTrueRoot}
use Rattle.mixed_model.specs.declared.proof.MixedProof.{MixedProof}
use Rattle.mixed_model.specs.declared.proof.MixedRoot.{MixedRoot}
use Rattle.mixed_model.specs.declared.proof.MixedRoot.TheVariants as root
use Rattle.mixed_model.specs.declared.proof.MixedRoute.{MixedRoute}
use Rattle.mixed_model.specs.declared.proof.MixedShare.{MixedShare}
use Rattle.mixed_model.specs.MixedTexts.{FitsMixedPlan, FitsRoute, mixed_plan_text}
use Rattle.mixed_run.specs.Judged.{AreKnown}
use Rattle.mixed_run.proofs.AcceptedAnswers.{is_bound_of_cost}
use Rattle.mixed_run.specs.CheckMixedAnswer.{IsValid}
use Rattle.mixed_run.specs.MixedAnswer.{IsMixedFound, IsReadBack, TellsRoot, mixed_status, outcomes_of}
use Rattle.mixed_text.specs.MixedTexts.{mixed_text}
use Rattle.mixed_text.specs.Written.{written_mixed}
use Rattle.plan_writer.specs.FleetText.{AreOutcomes, IsExactLine, IsLowestLine, StandsBeside, StandsBesideRoot, fleet_text}
use Rattle.plan_writer.specs.declared.fleet.RootLine.{RootLine}
use Rattle.plan_writer.specs.declared.fleet.RootLine.TheVariants as line

-- ---- the cost of the plan that is held

pub held_is_known : (kinds : List Network) (plan : Option (List MixedRoute)) → IfSome plan (IsHeld kinds) → AreKnown kinds plan
held_is_known kinds None held = tt
held_is_known kinds (Some routes) held = All-weaker (FitsRoute (length kinds)) (λ r. r.kind < length kinds) (λ r fits. fits.kind) routes held.text.1

-- a plan that is held is valid, and its text spells it
pub held_is_valid : (kinds : List Network) (plan : Option (List MixedRoute)) → IfSome plan (IsHeld kinds) → IsValid kinds plan (cost_held kinds plan)
held_is_valid kinds None held = refl
held_is_valid kinds (Some routes) held = (held.plan, refl)

pub held_fits : (kinds : List Network) (plan : Option (List MixedRoute)) → IfSome plan (IsHeld kinds) → FitsMixedPlan (length kinds) plan
held_fits kinds None held = tt
held_fits kinds (Some routes) held = held.text

-- so the cost that the search answers is that of a valid plan
found_is_valid : (kinds : List Network) (o : MixedOutcome) → IsOutcome kinds o → IsValid kinds o.plan o.cost
found_is_valid kinds o is = subst (λ (cost : Option ℕ). IsValid kinds o.plan cost) (sym is.cost) (held_is_valid kinds o.plan is.held)

stands_beside : (kinds : List Network) (plan : Option (List MixedRoute)) (cost bound : Option ℕ) → IsValid kinds plan cost → IsTrueBound kinds bound → StandsBeside cost bound
stands_beside kinds plan None None valid truth = tt
stands_beside kinds plan None (Some b) valid truth = tt
stands_beside kinds plan (Some c) (Some b) valid truth = tt
stands_beside kinds None (Some c) None valid truth = absurd (cc)
stands_beside kinds (Some p) (Some c) None valid truth = truth 1 (kind_plans p) valid.0

-- ---- the root

some_is_not_none : (b : ℕ) (bound : Option ℕ) → bound ≡ Some b → bound ≡ None → ⊥
some_is_not_none b bound is none = cc

shows : (kinds : List Network) (p : MixedProof) (r : MixedRoot) (told : RootLine) (bound : Option ℕ) → p.bound ≡ bound → IsRootOf kinds p r → TellsRoot kinds p r told → StandsBesideRoot bound told
shows kinds p r told None same is tells = tt
shows kinds p root.None told (Some b) same is tells = absurd (some_is_not_none b p.bound same is)
shows kinds p (root.Exact over shares) line.Empty (Some b) same is tells = absurd tells.1
shows kinds p (root.Exact over shares) (line.Exact n m) (Some b) same is tells = λ empty. cc
shows kinds p (root.Exact over shares) line.Wide (Some b) same is tells = λ empty. cc
shows kinds p (root.Wide columns basis) told (Some b) same is tells = λ empty. cc

pub tells_exact : (kinds : List Network) (p : MixedProof) (over : ℕ) (shares : List MixedShare) (told : RootLine) → IsBestProof kinds p → p.root ≡ root.Exact over shares →
    IsExactLine (price_total p.prices) (p.weight * (first_of kinds).denominator) told → TellsRoot kinds p p.root told
tells_exact kinds p over shares told best is line =
    let truth = subst (λ (r : MixedRoot). IsTrueRoot kinds p r) is best.truth.root in
    subst (λ (r : MixedRoot). TellsRoot kinds p r told) (sym is) (truth.0, line)

-- an exact root has a weight
pub root_weight : (kinds : List Network) (p : MixedProof) (over : ℕ) (shares : List MixedShare) → IsBestProof kinds p → p.root ≡ root.Exact over shares → 1 ≤ p.weight
root_weight kinds p over shares best is = (subst (λ (r : MixedRoot). RootHolds kinds p r) is best.accepted.root).some_weight

-- ---- the report

pub are_outcomes : (kinds : List Network) (o : MixedOutcome) (told : RootLine) → IsOutcome kinds o →
    TellsRoot kinds o.proof o.proof.root told → IsLowestLine told → AreOutcomes (record { cost = o.cost; bound = o.proof.bound; root = told; stopped = None })
are_outcomes kinds o told is tells lowest = record {
  bound = is_bound_of_cost kinds o.plan o.cost o.proof.bound (found_is_valid kinds o is) is.proof_is.truth.bound;
  beside = stands_beside kinds o.plan o.cost o.proof.bound (found_is_valid kinds o is) is.proof_is.truth.bound;
  root = shows kinds o.proof o.proof.root told o.proof.bound refl is.proof_is.root_is tells;
  lowest = lowest;
}

negative_tells : (bound : Option ℕ) → (mixed_status bound ≡ status.Negative) ↔ (bound ≡ None)
negative_tells None = (λ is. refl, λ is. refl)
negative_tells (Some b) = (λ is. absurd (cc), λ is. absurd (cc))

pub is_found : (kinds : List Network) (o : MixedOutcome) (plan_bytes cert_bytes text : List ℕ) (ended : Status) (told : RootLine) → IsOutcome kinds o →
    plan_bytes ≡ mixed_plan_text o.plan → cert_bytes ≡ mixed_text (written_mixed kinds o.proof) → IsReadBack kinds o.proof → ended ≡ mixed_status o.proof.bound →
    TellsRoot kinds o.proof o.proof.root told → text ≡ fleet_text (first_of kinds).denominator (outcomes_of kinds o told) → IsMixedFound kinds plan_bytes cert_bytes ended text
is_found kinds o plan_bytes cert_bytes text ended told is plan cert reads ended_is tells text_is = record {
  outcome = o;
  is = is;
  true_bound = is.proof_is.truth.bound;
  plan_is = plan;
  cert_is = cert;
  read_back = reads;
  root = told;
  root_is = tells;
  status_is = ended_is;
  negative = subst (λ (s : Status). (s ≡ status.Negative) ↔ (o.proof.bound ≡ None)) (sym ended_is) (negative_tells o.proof.bound);
  text_is = text_is;
}

-- what was appended to nothing
pub appended : (old new text : List ℕ) → new ≡ old ++ text → old ≡ [] → new ≡ text
appended old new text is empty = is ∙ ap (λ (xs : List ℕ). xs ++ text) empty
