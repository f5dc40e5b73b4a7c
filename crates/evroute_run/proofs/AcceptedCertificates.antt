-- An accepted certificate breaks no rule, no fleet plan costs less than its bound, and what stands for the same is accepted too.
use Rattle.std.proofs.Common.{◌≡◌, ◌∙◌, ℕ, ◌*◌, ◌≤◌, ◌⊎◌, Bool, List, [], Option, None, Some, arith, inl, inr, refl, subst, sym}
use Rattle.std.specs.List.{All}
use Rattle.std.specs.Prelude.{slice_get}
use Rattle.std.proofs.lemmas.List.Elements.{All-append, All-cons, All-nil}
use Rattle.std.proofs.lemmas.Option.{same_Some}
use Rattle.customer_sets.specs.Pairs.{any_pair, forbid, require}
use Rattle.ev_model.specs.Fleet.{cost_of}
use Rattle.ev_model.specs.Network.{Network}
use Rattle.fleet_model.proofs.Rules.{closed_by_rules}
use Rattle.fleet_model.specs.ClosedList.{IsClosed}
use Rattle.fleet_model.specs.ClosedListRules.{at_home, at_start, at_step}
use Rattle.fleet_model.specs.Cover.{IsFleetRoute, Share}
use Rattle.fleet_model.specs.Section.{Section}
use Rattle.fleet_model.specs.Tree.{BranchTree, IsUnder, leaf, LeavesAreUnder, split}
use Rattle.plan_check.specs.FleetRules.{stops_of}
use Rattle.report_lines.specs.Lines.{IsBoundOf}
use Rattle.route_plan.specs.declared.plan.FleetPlan.{FleetPlan}
use Rattle.route_plan.specs.declared.plan.RoutePlan.{RoutePlan}
use Rattle.bound_certificate.proofs.Meanings.{one_tree_of}
use Rattle.bound_certificate.specs.Meaning.{IsTreeOf, priced_sections, route_shares}
use Rattle.bound_certificate.specs.declared.certificate.Certificate.{Certificate}
use Rattle.bound_certificate.specs.declared.certificate.Root.{Root}
use Rattle.bound_certificate.specs.declared.certificate.Root.TheVariants as root
use Rattle.bound_certificate.specs.declared.certificate.TreeLine.{TreeLine}
use Rattle.certificate_check.proofs.Truths.{at_number}
use Rattle.certificate_check.specs.Accepted.{AllowsAll, IsAccepted, IsRootOf, IsSectionAt, RootHolds}
use Rattle.certificate_check.specs.Leaves.{TreeLeaf, leaves_of}
use Rattle.certificate_check.specs.Rules.{CertificateFault, IsBroken, IsKindBroken, at_bound, at_pairs, at_root, in_section}
use Rattle.certificate_check.specs.Truth.{IsTrueBound}
use Rattle.certificate_check.specs.Verdicts.{IsVerdict}
use Rattle.certificate_check.specs.declared.verdict.Verdict.{Verdict}
use Rattle.certificate_check.specs.declared.verdict.Verdict.TheVariants as verdict
use Rattle.evroute_run.proofs.OneCertificate.{AreSame}
use Rattle.fleet_steps.specs.PlanFile.{IsValid}

-- ---- the bound

pub is_bound_of_cost : (g : Network) (plan : Option FleetPlan) (cost bound : Option ℕ) → IsValid g plan cost → IsTrueBound g bound → IsBoundOf cost bound
is_bound_of_cost g None None bound valid truth = tt
is_bound_of_cost g None (Some c) bound valid truth = absurd (cc)
is_bound_of_cost g (Some p) None bound valid truth = tt
is_bound_of_cost g (Some p) (Some c) None valid truth = tt
is_bound_of_cost g (Some p) (Some c) (Some b) valid truth =
    let le : 1 * b ≤ cost_of g 1 (stops_of p.routes) = truth 1 (stops_of p.routes) valid.0 in
    let same : c ≡ cost_of g 1 (stops_of p.routes) = same_Some c (cost_of g 1 (stops_of p.routes)) valid.1 in
    omega (arith, le, same)

-- ---- what stands for the same

pub accepted_same : (g : Network) (c d : Certificate) → AreSame c d → IsAccepted g c → IsAccepted g d
accepted_same g c d same accepted = record {
  sections = subst (λ (ss : List Section). All (IsClosed g) ss) same.sections accepted.sections;
  leaves = (
    accepted.leaves.0,
    subst (λ (lines : List TreeLine). IsTreeOf lines accepted.leaves.0) same.tree accepted.leaves.1,
    subst (λ (b : Option ℕ). LeavesAreUnder (priced_sections d.sections) b any_pair accepted.leaves.0) same.bound
        (subst (λ (ss : List Section). LeavesAreUnder ss c.bound any_pair accepted.leaves.0) same.sections accepted.leaves.2),
  );
  root = (
    accepted.root.0,
    subst (λ (ss : List Section). slice_get ss 0 ≡ Some accepted.root.0) same.sections accepted.root.1,
    subst (λ (r : Root). IsRootOf g accepted.root.0 r) same.root_is accepted.root.2,
  );
}

-- ---- no rule is broken

LeafIsUnder : List Section → Option ℕ → TreeLeaf → Type 0
LeafIsUnder sections bound l = (s : Section) × (slice_get sections l.section ≡ Some s) × IsUnder l.allows s bound

each_under : (sections : List Section) (bound : Option ℕ) (allows : ℕ → ℕ → Bool) (t : BranchTree) → LeavesAreUnder sections bound allows t → All (LeafIsUnder sections bound) (leaves_of allows t)
unfolding LeafIsUnder
each_under sections bound allows (leaf n) under = All-cons (LeafIsUnder sections bound) (record { section = n; allows = allows }) [] under (All-nil (LeafIsUnder sections bound))
each_under sections bound allows (split i j apart together) under =
    All-append (LeafIsUnder sections bound) (leaves_of (forbid i j allows) apart) (leaves_of (require i j allows) together)
    (each_under sections bound (forbid i j allows) apart under.0) (each_under sections bound (require i j allows) together under.1)

one_leaf : (g : Network) (c : Certificate) (n : ℕ) (l : TreeLeaf) (s : Section) (t : BranchTree) → IsAccepted g c → IsTreeOf c.tree t → slice_get (leaves_of any_pair t) n ≡ Some l
    → IsSectionAt c l.section s → IsUnder l.allows s c.bound
unfolding LeafIsUnder
one_leaf g c n l s t accepted is there at =
    let sections = priced_sections c.sections in
    let same = one_tree_of c.tree accepted.leaves.0 t accepted.leaves.1 is in
    let under = subst (λ (u : BranchTree). LeavesAreUnder sections c.bound any_pair u) same accepted.leaves.2 in
    let found = at_number (LeafIsUnder sections c.bound) (leaves_of any_pair t) n l (each_under sections c.bound any_pair t under) there in
    subst (λ (x : Section). IsUnder l.allows x c.bound) (same_Some found.0 s (sym found.1 ∙ at)) found.2

root_holds : (g : Network) (s : Section) (r : Root) → RootHolds g s r → IsKindBroken g s r → ⊥
root_holds g s root.None holds broken = broken holds
root_holds g s (root.Exact over shares) holds (inl (n, x, at, faulty)) = faulty (at_number (λ (y : Share). IsFleetRoute g 1 y.plan) (route_shares shares) n x holds.cover.routes at)
root_holds g s (root.Exact over shares) holds (inr (inl (node, below, customer, uneven))) = uneven (holds.cover.covers node below customer)
root_holds g s (root.Exact over shares) holds (inr (inr (inl none))) = let some = holds.some_weight in omega (arith, some, none)
root_holds g s (root.Exact over shares) holds (inr (inr (inr other))) = other holds.cost
root_holds g s (root.Wide columns basis) holds (inl (n, p, at, faulty)) = faulty (at_number (λ (q : RoutePlan). IsFleetRoute g 1 q.stops) columns n p holds.routes at)
root_holds g s (root.Wide columns basis) holds (inr narrow) = narrow holds.wide

accepted_keeps : (g : Network) (c : Certificate) (fault : CertificateFault) → IsAccepted g c → IsBroken g c fault → ⊥
accepted_keeps g c (in_section n fault) accepted (s, at, broken) = (closed_by_rules g s).0 (at_number (IsClosed g) (priced_sections c.sections) n s accepted.sections at) fault broken
accepted_keeps g c (at_pairs n) accepted (l, s, names, more) = more (one_leaf g c n l s names.leaf.0 accepted names.leaf.1 names.leaf.2 names.section).pairs
accepted_keeps g c (at_bound n) accepted (l, s, names, below) = below (one_leaf g c n l s names.leaf.0 accepted names.leaf.1 names.leaf.2 names.section).bounded
accepted_keeps g c at_root accepted (s, at, broken) = by (subst (λ (x : Section). IsRootOf g x c.root) (same_Some accepted.root.0 s (sym accepted.root.1 ∙ at)) accepted.root.2) broken
  where
    by : IsRootOf g s c.root → (AllowsAll s → ⊥) ⊎ IsKindBroken g s c.root → ⊥
    by holds (inl forbids) = forbids holds.all
    by holds (inr broken) = root_holds g s c.root holds.holds broken

pub accepted_is_no_rejection : (g : Network) (c : Certificate) (found : Verdict) → IsAccepted g c → (found ≡ verdict.Accepted → ⊥) → IsVerdict g c found → ⊥
accepted_is_no_rejection g c verdict.Accepted accepted broken first = broken refl
accepted_is_no_rejection g c (verdict.Start section) accepted broken first = accepted_keeps g c (in_section section at_start) accepted first.broken
accepted_is_no_rejection g c (verdict.Step section label node) accepted broken first = accepted_keeps g c (in_section section (at_step label node)) accepted first.broken
accepted_is_no_rejection g c (verdict.End section label) accepted broken first = accepted_keeps g c (in_section section (at_home label)) accepted first.broken
accepted_is_no_rejection g c (verdict.Pairs number) accepted broken first = accepted_keeps g c (at_pairs number) accepted first.broken
accepted_is_no_rejection g c (verdict.Bound number) accepted broken first = accepted_keeps g c (at_bound number) accepted first.broken
accepted_is_no_rejection g c verdict.Root accepted broken first = accepted_keeps g c at_root accepted first.broken
