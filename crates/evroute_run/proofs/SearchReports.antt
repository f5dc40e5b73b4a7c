-- What is reported of a search.
use Rattle.std.proofs.Common.{◌≡◌, ◌∙◌, ℕ, ◌*◌, ◌≤◌, ◌∷◌, ◌++◌, [], List, Option, None, Some, IfSome, ap, arith, inl, inr, length, refl, subst, sym}
use Rattle.std.specs.List.{All}
use Rattle.std.specs.Prelude.{if◌then◌else◌, get_or, slice_get}
use Rattle.std.proofs.lemmas.Int.{ints}
use Rattle.std.proofs.lemmas.List.Elements.{All-head}
use Rattle.std.proofs.lemmas.Option.{same_Some}
use Rattle.bound_certificate.specs.CertificateTexts.{certificate_text}
use Rattle.bound_certificate.specs.Meaning.{priced_section, priced_sections}
use Rattle.bound_certificate.specs.Ranges.{Fits, SectionFits}
use Rattle.bound_certificate.specs.Written.{written}
use Rattle.bound_certificate.specs.declared.certificate.Certificate.{Certificate}
use Rattle.bound_certificate.specs.declared.certificate.Root.{Root}
use Rattle.bound_certificate.specs.declared.certificate.Root.TheVariants as root
use Rattle.bound_certificate.specs.declared.certificate.Section.{Section}
use Rattle.bound_certificate.specs.declared.certificate.Share.{Share}
use Rattle.certificate_check.proofs.Truths.{least_cost, true_bound}
use Rattle.certificate_check.specs.Accepted.{IsAccepted, IsSectionAt, RootHolds}
use Rattle.certificate_check.specs.Truth.{IsTrueBound}
use Rattle.ev_fleet.specs.Bounds.{IsAtMost, IsBoundOf}
use Rattle.ev_fleet.specs.Outcome.{IsOutcome}
use Rattle.ev_fleet.specs.Plans.{IsHeld, cost_held}
use Rattle.ev_fleet.specs.declared.outcome.Outcome.{Outcome}
use Rattle.ev_model.specs.Network.{IsNetwork, Network}
use Rattle.fleet_model.specs.Prices.{price_total}
use Rattle.fleet_model.specs.Section.{Section as PricedSection}
use Rattle.plan_check.specs.FleetRules.{stops_of}
use Rattle.plan_writer.specs.FleetText.{AreOutcomes, IsExactLine, IsLowestLine, StandsBeside, StandsBesideRoot, fleet_text}
use Rattle.plan_writer.specs.declared.fleet.RootLine.{RootLine}
use Rattle.plan_writer.specs.declared.fleet.RootLine.TheVariants as line
use Rattle.route_plan.specs.PlanTexts.{FitsFile, fleet_plan_text}
use Rattle.route_plan.specs.declared.plan.FleetPlan.{FleetPlan}
use Rattle.fleet_steps.specs.PlanFile.{IsValid}
use Rattle.evroute_run.specs.FleetAnswer.{IsFound, IsReadBack, TellsKind, TellsRootOf, outcomes_of, search_status}
use Rattle.job_frame.specs.declared.status.Status.{Status}
use Rattle.evroute_run.proofs.AcceptedCertificates.{is_bound_of_cost}
use Rattle.evroute_run.proofs.SearchStatus.{status_tells}

-- ---- the cost of the plan that is held

-- a plan that is held is valid
pub held_is_valid : (g : Network) (plan : Option FleetPlan) → IfSome plan (IsHeld g) → IsValid g plan (cost_held g plan)
held_is_valid g None held = refl
held_is_valid g (Some p) held = (held.fleet, refl)

-- so the cost that the search answers is that of a valid plan
pub found_is_valid : (g : Network) (budget : Option ℕ) (o : Outcome) → IsOutcome g budget o → IsValid g o.plan o.cost
found_is_valid g budget o is = subst (λ (cost : Option ℕ). IsValid g o.plan cost) (sym is.cost) (held_is_valid g o.plan is.plan)

pub stands_beside : (g : Network) (plan : Option FleetPlan) (cost bound : Option ℕ) → IsValid g plan cost → IsTrueBound g bound → StandsBeside cost bound
stands_beside g plan None None valid true_bound = tt
stands_beside g plan None (Some b) valid true_bound = tt
stands_beside g plan (Some c) (Some b) valid true_bound = tt
stands_beside g None (Some c) None valid true_bound = absurd (cc)
stands_beside g (Some p) (Some c) None valid true_bound = true_bound 1 (stops_of p.routes) valid.0

-- ---- the root

same_section : (sections : List Section) (x : Section) (s : PricedSection) → slice_get sections 0 ≡ Some x → slice_get (priced_sections sections) 0 ≡ Some s → priced_section x ≡ s
same_section [] x s here at = absurd (cc)
same_section (y ∷ ys) x s here at =
    ap (λ (z : Section). priced_section z) (sym (same_Some y x here)) ∙ same_Some (priced_section y) s at

section_at : (c : Certificate) (x : Section) → slice_get c.sections 0 ≡ Some x → IsSectionAt c 0 (priced_section x)
section_at c x here = at c.sections here
  where
    at : (sections : List Section) → slice_get sections 0 ≡ Some x → slice_get (priced_sections sections) 0 ≡ Some (priced_section x)
    at [] here = absurd (cc)
    at (y ∷ ys) here = ap (λ (z : Section). Some (priced_section z)) (same_Some y x here)

-- the first of some sections stands in their list
pub first_stands : (sections : List Section) (x : Section) → 1 ≤ length sections → x ≡ get_or sections 0 x → slice_get sections 0 ≡ Some x
first_stands [] x some is = absurd (omega (arith, some))
first_stands (y ∷ ys) x some is = ap (λ (z : Section). Some z) (sym is)

-- the section of an exact root has a weight
pub root_weight : (g : Network) (c : Certificate) (over : ℕ) (shares : List Share) (x : Section) → IsAccepted g c → c.root ≡ root.Exact over shares →
    slice_get c.sections 0 ≡ Some x → 1 ≤ x.weight
root_weight g c over shares x accepted is here =
    let s = accepted.root.0 in
    let same : priced_section x ≡ s = same_section c.sections x s here accepted.root.1 in
    let exact = subst (λ (r : Root). RootHolds g s r) is accepted.root.2.holds in
    subst (λ (y : PricedSection). 1 ≤ y.weight) (sym same) exact.some_weight

pub section_fits : (g : Network) (c : Certificate) (x : Section) → Fits g c → slice_get c.sections 0 ≡ Some x → SectionFits g x
section_fits g c x fits here = first c.sections here fits.sections
  where
    first : (sections : List Section) → slice_get sections 0 ≡ Some x → All (SectionFits g) sections → SectionFits g x
    first [] here all = absurd (cc)
    first (y ∷ ys) here all = subst (λ (z : Section). SectionFits g z) (same_Some y x here) (All-head (SectionFits g) y ys all)

pub tells_exact : (g : Network) (c : Certificate) (over : ℕ) (shares : List Share) (x : Section) (told : RootLine) → IsNetwork g → Fits g c → IsAccepted g c →
    c.root ≡ root.Exact over shares → slice_get c.sections 0 ≡ Some x → IsExactLine (price_total x.prices) (x.weight * g.denominator) told → TellsRootOf g c told
tells_exact g c over shares x told network fits accepted is here line =
    let at = section_at c x here in
    subst (λ (r : Root). TellsKind g c r told) (sym is)
    (priced_section x, at, least_cost g c (priced_section x) over shares network fits accepted is at, line)

wide_is_not_empty : line.Wide ≡ line.Empty → ⊥
wide_is_not_empty is = cc

shows : (g : Network) (c : Certificate) (s : PricedSection) (r : Root) (told : RootLine) (own bound : Option ℕ) → RootHolds g s r → TellsKind g c r told →
    IsBoundOf s own → IsAtMost own bound → StandsBesideRoot bound told
shows g c s r told own None holds tells is most = tt
shows g c s root.None told None (Some b) holds tells is most = absurd most
shows g c s root.None told (Some n) (Some b) holds tells (inl some) most = absurd (omega (arith, holds.0, some.0))
shows g c s root.None told (Some n) (Some b) holds tells (inr none) most = absurd (omega (arith, ints, holds.1, none.1))
shows g c s (root.Exact over shares) line.Empty own (Some b) holds tells is most = absurd tells.3
shows g c s (root.Exact over shares) (line.Exact p q) own (Some b) holds tells is most = λ same. cc
shows g c s (root.Exact over shares) line.Wide own (Some b) holds tells is most = λ same. cc
shows g c s (root.Wide columns basis) told own (Some b) holds tells is most = λ same. wide_is_not_empty (sym tells ∙ same)

-- a bound stands beside a root that shows something
pub root_shows : (g : Network) (budget : Option ℕ) (o : Outcome) (told : RootLine) → IsOutcome g budget o → TellsRootOf g o.certificate told → StandsBesideRoot o.certificate.bound told
root_shows g budget o told is tells =
    let own = is.at_root.0 in
    let has = is.at_root.1 in
    let s = is.accepted.root.0 in
    let same : priced_section has.section ≡ s = same_section o.certificate.sections has.section s has.here is.accepted.root.1 in
    shows g o.certificate s o.certificate.root told own o.certificate.bound is.accepted.root.2.holds tells
    (subst (λ (y : PricedSection). IsBoundOf y own) same has.is) is.at_root.2

-- ---- what was found

-- a plan that is held may be written
pub held_fits : (g : Network) (plan : Option FleetPlan) → IfSome plan (IsHeld g) → FitsFile plan
held_fits g None held = tt
held_fits g (Some p) held = held.text

-- what is reported stands together
pub are_outcomes : (g : Network) (budget : Option ℕ) (o : Outcome) (stopped : Option ℕ) (told : RootLine) → IsOutcome g budget o
    → TellsRootOf g o.certificate told → IsLowestLine told → AreOutcomes (record { cost = o.cost; bound = o.certificate.bound; root = told; stopped = stopped })
are_outcomes g budget o stopped told is tells low =
    let valid = found_is_valid g budget o is in
    let bound = true_bound g o.certificate is.network is.fits is.accepted in
    record {
      bound = is_bound_of_cost g o.plan o.cost o.certificate.bound valid bound;
      beside = stands_beside g o.plan o.cost o.certificate.bound valid bound;
      root = root_shows g budget o told is tells;
      lowest = low;
    }

-- the report that was written is that of the search
pub report_of_search : (g : Network) (budget : Option ℕ) (o : Outcome) (stopped : Option ℕ) (told : RootLine) (text : List ℕ) → IsOutcome g budget o →
    stopped ≡ (if o.stopped then Some o.nodes else None) → text ≡ fleet_text g.denominator (record { cost = o.cost; bound = o.certificate.bound; root = told; stopped = stopped })
    → text ≡ fleet_text g.denominator (outcomes_of g o told)
report_of_search g budget o stopped told text outcome looked is =
    is
    ∙ ap (λ (c : Option ℕ). fleet_text g.denominator (record { cost = c; bound = o.certificate.bound; root = told; stopped = stopped })) outcome.cost
    ∙ ap (λ (n : Option ℕ). fleet_text g.denominator (record { cost = cost_held g o.plan; bound = o.certificate.bound; root = told; stopped = n })) looked

-- what was appended to nothing
pub appended : (old new text : List ℕ) → new ≡ old ++ text → old ≡ [] → new ≡ text
appended old new text is empty = is ∙ ap (λ (xs : List ℕ). xs ++ text) empty

-- a search whose texts were written and whose report was made
pub is_found : (g : Network) (budget : Option ℕ) (o : Outcome) (plan_bytes cert_bytes text : List ℕ) (ended : Status) → IsOutcome g budget o
    → plan_bytes ≡ fleet_plan_text o.plan → cert_bytes ≡ certificate_text g (written g o.certificate)
    → IsReadBack g o.certificate → ended ≡ search_status o.certificate.bound o.stopped
    → ((told : RootLine) × TellsRootOf g o.certificate told × (text ≡ fleet_text g.denominator (outcomes_of g o told)))
    → IsFound g budget plan_bytes cert_bytes ended text
is_found g budget o plan_bytes cert_bytes text ended is plan cert reads status_is (told, tells, text_is) = record {
  is_network = is.network;
  outcome = o;
  is = is;
  true_bound = true_bound g o.certificate is.network is.fits is.accepted;
  plan_is = plan;
  cert_is = cert;
  read_back = reads;
  root = told;
  root_is = tells;
  status_is = status_is;
  tells = status_tells g budget o ended is (true_bound g o.certificate is.network is.fits is.accepted) status_is;
  text_is = text_is;
}
