-- The bound of an accepted certificate is true, and its exact root is the linear optimum.
use Rattle.std.proofs.Common.{◌≡◌, ◌∙◌, ℕ, ◌*◌, ◌≤◌, arith, mul-le-mul, Bool, true, List, [], ◌∷◌, Option, Some, None, Result, Ok, Err, slice_get, refl, sym, subst}
use Rattle.std.specs.Prelude.{IfOk, ℤ, pos, negsuc, ◌*ℤ◌, ◌≤ℤ◌, ◌<ℤ◌}
use Rattle.std.specs.List.{All}
use Rattle.std.proofs.lemmas.List.Elements.{All-cons, All-get_or, All-nil}
use Rattle.std.proofs.Math.IntN.{pos-*ℤ-pos}
use Rattle.std.proofs.lemmas.Int.{ints}
use Rattle.std.proofs.lemmas.Option.{get_or_from_slice_get, same_Some, slice_get_within}
use Rattle.customer_sets.specs.Pairs.{any_pair}
use Rattle.ev_model.specs.Network.{IsNetwork, Network}
use Rattle.ev_model.specs.Route.{route_of}
use Rattle.fleet_model.specs.ClosedList.{IsClosed}
use Rattle.fleet_model.specs.Cover.{Share as RouteShare}
use Rattle.fleet_model.specs.Prices.{price_total}
use Rattle.fleet_model.specs.Section.{IsSectionOf, Section, ShowsNoPlan}
use Rattle.fleet_model.specs.Tree.{BranchTree, IsBranchTree, LeavesAreUnder}
use Rattle.fleet_model.specs.Whole.{NoFractionIsFaster}
use Rattle.fleet_model.specs.Cover.{cost_of_shares, CoverKeepsPairs}
use Rattle.fleet_model.specs.Pairs.{PlanKeepsPairs}
use Rattle.fleet_model.specs.Places.{places_of}
use Rattle.fleet_model.proofs.Splits.{keep_all}
use Rattle.fleet_model.proofs.Covers.{cover_cost}
use Rattle.fleet_model.proofs.Leaves.{tree_bound, tree_none}
use Rattle.rounding_law.proofs.Whole.{no_fraction_is_faster}
use Rattle.bound_certificate.specs.Meaning.{IsTreeOf, priced_sections, route_shares}
use Rattle.bound_certificate.specs.Ranges.{Fits}
use Rattle.bound_certificate.specs.declared.certificate.Certificate.{Certificate}
use Rattle.bound_certificate.specs.declared.certificate.Root.{Root}
use Rattle.bound_certificate.specs.declared.certificate.Root.TheVariants.{Exact}
use Rattle.bound_certificate.specs.declared.certificate.Root.TheVariants as root
use Rattle.bound_certificate.specs.declared.certificate.Share.{Share}
use Rattle.bound_certificate.proofs.Meanings.{has_tree, one_tree_of, sections_fit}
use Rattle.certificate_check.specs.Accepted.{IsAccepted, IsRootOf, IsSectionAt, RootHolds}
use Rattle.certificate_check.specs.Verdicts.{IsVerdict}
use Rattle.certificate_check.specs.declared.verdict.Verdict.{Verdict}
use Rattle.certificate_check.specs.declared.verdict.Verdict.TheVariants.{Accepted}
use Rattle.certificate_check.specs.Truth.{CostExactly, HasNoCover, IsLeastCost, IsTrueBound, IsTrueCertificate, IsTrueRoot}

whole_is_no_slower : (g : Network) → IsNetwork g → NoFractionIsFaster g
whole_is_no_slower g network k plan feasible =
    let found = no_fraction_is_faster g (route_of plan) k g.capacity plan network feasible refl in
    record { whole = found.0; feasible = found.1; follows = found.2; no_slower = found.3 }

tree_of : (g : Network) (c : Certificate) → Fits g c → (t : BranchTree) → IsTreeOf c.tree t → IsBranchTree g t
tree_of g c fits t is =
    let own = has_tree g c fits in
    subst (IsBranchTree g) (one_tree_of c.tree own.0 t own.1 is) own.2

pub true_bound : (g : Network) (c : Certificate) → IsNetwork g → Fits g c → IsAccepted g c → IsTrueBound g c.bound
true_bound g c network fits accepted = by c.bound accepted.leaves.2
  where
    by : (bound : Option ℕ) → LeavesAreUnder (priced_sections c.sections) bound any_pair accepted.leaves.0 → IsTrueBound g bound
    by None under = λ k plans fleet.
        tree_none g (priced_sections c.sections) accepted.leaves.0 k plans network (whole_is_no_slower g network) (sections_fit g c fits) accepted.sections
        (tree_of g c fits accepted.leaves.0 accepted.leaves.1) under fleet
    by (Some bound) under = λ k plans fleet.
        tree_bound g (priced_sections c.sections) accepted.leaves.0 k bound plans network (whole_is_no_slower g network) (sections_fit g c fits) accepted.sections
        (tree_of g c fits accepted.leaves.0 accepted.leaves.1) under fleet

keeps_all : (g : Network) (allows : ℕ → ℕ → Bool) (shares : List RouteShare) → ((a b : ℕ) → allows a b ≡ true) → CoverKeepsPairs g allows shares
keeps_all g allows [] all = All-nil (λ (x : RouteShare). PlanKeepsPairs g allows x.plan)
keeps_all g allows (x ∷ xs) all = All-cons (λ (y : RouteShare). PlanKeepsPairs g allows y.plan) x xs (keep_all allows (places_of g x.plan) (λ a b h. all a b)) (keeps_all g allows xs all)

pub at_number : {X : Type 0} (P : X → Type 0) (xs : List X) (n : ℕ) (s : X) → All P xs → slice_get xs n ≡ Some s → P s
at_number P xs n s all at = subst P (get_or_from_slice_get xs n s s at) (All-get_or P xs n s (slice_get_within xs n s at) all)

root_at : (g : Network) (c : Certificate) (s : Section) → IsAccepted g c → IsSectionAt c 0 s → IsRootOf g s c.root
root_at g c s accepted at = subst (λ (t : Section). IsRootOf g t c.root) (same_Some accepted.root.0 s (sym accepted.root.1 ∙ at)) accepted.root.2

pub least_of : (g : Network) (c : Certificate) (s : Section) → IsNetwork g → Fits g c → IsAccepted g c → IsSectionAt c 0 s → IsLeastCost g s
least_of g c s network fits accepted at = λ k weight others cover.
    cover_cost g s k weight others network (whole_is_no_slower g network) (at_number (IsSectionOf g) (priced_sections c.sections) 0 s (sections_fit g c fits) at)
    (at_number (IsClosed g) (priced_sections c.sections) 0 s accepted.sections at) cover (keeps_all g s.allows others (root_at g c s accepted at).all)

pub least_cost : (g : Network) (c : Certificate) (s : Section) (over : ℕ) (shares : List Share) → IsNetwork g → Fits g c → IsAccepted g c → c.root ≡ Exact over shares → IsSectionAt c 0 s → IsLeastCost g s
least_cost g c s over shares network fits accepted is at = least_of g c s network fits accepted at

nothing_is_below : (n cost : ℕ) (sum : ℤ) → 1 ≤ n → pos 0 <ℤ sum → (pos n *ℤ sum) ≤ℤ pos (0 * cost) → ⊥
nothing_is_below n cost (pos m) some positive less =
    let product : pos n *ℤ pos m ≡ pos (n * m) = pos-*ℤ-pos n m in
    let some_price : 1 ≤ m = omega (arith, ints, positive) in
    let both : 1 * 1 ≤ n * m = mul-le-mul some some_price in
    omega (arith, ints, product, both, less)
nothing_is_below n cost (negsuc m) some positive less = omega (arith, ints, positive)

pub exact_cost : (g : Network) (c : Certificate) (s : Section) (over : ℕ) (shares : List Share) → IsAccepted g c → c.root ≡ Exact over shares → IsSectionAt c 0 s → CostExactly g s over (route_shares shares)
exact_cost g c s over shares accepted is at =
    let root = subst (λ (r : Root). RootHolds g s r) is (root_at g c s accepted at).holds in
    record { cover = root.cover; some_weight = root.some_weight; cost = root.cost }

-- ---- what is shown of an accepted certificate

no_cover : (g : Network) (c : Certificate) (s : Section) → IsNetwork g → Fits g c → IsAccepted g c → IsSectionAt c 0 s → ShowsNoPlan s → HasNoCover g
no_cover g c s network fits accepted at none = λ k weight others some cover.
    absurd (nothing_is_below (k * weight) (cost_of_shares g k others) (price_total s.prices) (mul-le-mul some cover.some_weight) none.1
    (subst (λ w. (pos (k * weight) *ℤ price_total s.prices) ≤ℤ pos (w * cost_of_shares g k others)) none.0 (least_of g c s network fits accepted at k weight others cover)))

true_root : (g : Network) (c : Certificate) (s : Section) → IsNetwork g → Fits g c → IsAccepted g c → IsSectionAt c 0 s → (r : Root) → c.root ≡ r → IsTrueRoot g s r
true_root g c s network fits accepted at root.None is = no_cover g c s network fits accepted at (subst (λ (r : Root). RootHolds g s r) is (root_at g c s accepted at).holds)
true_root g c s network fits accepted at (root.Exact over shares) is = (least_of g c s network fits accepted at, exact_cost g c s over shares accepted is at)
true_root g c s network fits accepted at (root.Wide columns basis) is = least_of g c s network fits accepted at

pub true_certificate : (g : Network) (c : Certificate) → IsNetwork g → Fits g c → IsAccepted g c → IsTrueCertificate g c
true_certificate g c network fits accepted = record {
  bound = true_bound g c network fits accepted;
  root = (accepted.root.0, accepted.root.1, true_root g c accepted.root.0 network fits accepted accepted.root.1 c.root refl);
}

pub shown : {E : Type 0} (g : Network) (c : Certificate) (r : Result Verdict E) → IsNetwork g → Fits g c → IfOk r (IsVerdict g c) → IfOk r (λ v. v ≡ Accepted → IsTrueCertificate g c)
shown g c (Ok v) network fits is = λ same. true_certificate g c network fits (subst (IsVerdict g c) same is)
shown g c (Err e) network fits is = tt
