-- With one kind, a proof is accepted where the certificate of its one section is.
use Rattle.std.proofs.Common.{◌≡◌, ◌∙◌, ℕ, zero, suc, ◌*◌, ◌<◌, Bool, List, [], ◌∷◌, map, refl, sym, ap, subst, arith}
use Rattle.std.specs.List.{All}
use Rattle.std.specs.Prelude.{pos}
use Rattle.std.proofs.lemmas.List.Elements.{All-cons, All-head, All-nil, All-tail}
use Rattle.std.proofs.lemmas.Option.{same_Some}
use Rattle.customer_sets.specs.Pairs.{allows_of, any_pair, ForbiddenPairs}
use Rattle.ev_model.specs.Network.{Network}
use Rattle.fleet_model.specs.ClosedList.{IsClosed}
use Rattle.fleet_model.specs.Cover.{IsExactRoot, IsFleetRoute, Share as RouteShare}
use Rattle.fleet_model.specs.Equations.{Column}
use Rattle.fleet_model.specs.Places.{customer_count}
use Rattle.fleet_model.specs.Section.{Section, ShowsNoPlan}
use Rattle.fleet_model.specs.Tree.{BranchTree, IsBoundedBy, leaf, LeavesAreUnder}
use Rattle.fleet_model.specs.Wide.{IsTooWide}
use Rattle.bound_certificate.specs.Meaning.{entry_column, priced_label, route_column, route_columns, route_shares}
use Rattle.bound_certificate.specs.declared.certificate.TreeLine.TheVariants.{Leaf}
use Rattle.bound_certificate.proofs.Meanings.{one_tree_of}
use Rattle.certificate_parts.specs.declared.entry.BasisEntry.{BasisEntry}
use Rattle.certificate_parts.specs.Ranges.{customer_count as listed_customers}
use Rattle.certificate_check.specs.Accepted.{IsAccepted, IsRootOf, RootHolds as PlainRootHolds}
use Rattle.route_plan.specs.declared.plan.RoutePlan.{RoutePlan}
use Rattle.mixed_model.specs.Accepted.{IsMixedAccepted, RootHolds}
use Rattle.mixed_model.specs.Covers.{IsKindRoute, KindShare, plain_shares}
use Rattle.mixed_model.specs.Kinds.{network_of}
use Rattle.mixed_model.specs.Meaning.{kind_plan, kind_shares, labels_of, mixed_columns, section_of}
use Rattle.mixed_model.specs.OneKind.{AllowsEach, as_certificate, plain_root, plain_share}
use Rattle.mixed_model.specs.Ranges.{MixedFits, RootFits, RouteFits, ShareFits}
use Rattle.mixed_model.specs.declared.proof.MixedProof.{MixedProof}
use Rattle.mixed_model.specs.declared.proof.MixedRoot.{MixedRoot}
use Rattle.mixed_model.specs.declared.proof.MixedRoot.TheVariants as root
use Rattle.mixed_model.specs.declared.proof.MixedRoute.{MixedRoute}
use Rattle.mixed_model.specs.declared.proof.MixedShare.{MixedShare}
use Rattle.mixed_model.proofs.OneKind.{all_from, all_to, cover_cost, cover_from, cover_to, only_kind}

-- ---- shares

abbrev own_shares : List MixedShare → List RouteShare
own_shares shares = plain_shares (kind_shares shares)

same_shares : (shares : List MixedShare) → route_shares (map plain_share shares) ≡ own_shares shares
same_shares [] = refl
same_shares (x ∷ xs) =
    let y : RouteShare = record { share = x.share; plan = x.route.plan.stops } in
    ap (λ (l : List RouteShare). y ∷ l) (same_shares xs)

shares_of_one : (shares : List MixedShare) → All (ShareFits 1) shares → All (λ (x : KindShare). x.plan.kind < 1) (kind_shares shares)
shares_of_one [] fit = All-nil (λ (x : KindShare). x.plan.kind < 1)
shares_of_one (x ∷ xs) fit =
    let y : KindShare = record { share = x.share; plan = kind_plan x.route } in
    All-cons (λ (x : KindShare). x.plan.kind < 1) y (kind_shares xs) (All-head (ShareFits 1) x xs fit).route.kind (shares_of_one xs (All-tail (ShareFits 1) x xs fit))

-- ---- columns

same_columns : (g : Network) (columns : List MixedRoute) → All (RouteFits 1) columns → mixed_columns (g ∷ []) columns ≡ route_columns g (map (λ r. r.plan) columns)
same_columns g [] fit = refl
same_columns g (r ∷ rs) fit =
    let here : route_column (network_of (g ∷ []) r.kind) r.plan ≡ route_column g r.plan = ap (λ (h : Network). route_column h r.plan) (only_kind g r.kind (All-head (RouteFits 1) r rs fit).kind) in
    let rest = same_columns g rs (All-tail (RouteFits 1) r rs fit) in
    ap (λ (c : Column). c ∷ mixed_columns (g ∷ []) rs) here ∙ ap (λ (l : List Column). route_column g r.plan ∷ l) rest

abbrev TooWide : Network → List BasisEntry → List Column → Type 0
TooWide g basis columns = IsTooWide (customer_count g) columns (map (entry_column columns) basis)

module _ (g : Network) where
  route_to : (r : MixedRoute) → RouteFits 1 r → IsKindRoute (g ∷ []) 1 (kind_plan r) → IsFleetRoute g 1 r.plan.stops
  route_to r fit route = subst (λ (h : Network). IsFleetRoute h 1 r.plan.stops) (only_kind g r.kind fit.kind) route.route

  route_from : (r : MixedRoute) → RouteFits 1 r → IsFleetRoute g 1 r.plan.stops → IsKindRoute (g ∷ []) 1 (kind_plan r)
  route_from r fit route = record { known = fit.kind; route = subst (λ (h : Network). IsFleetRoute h 1 r.plan.stops) (sym (only_kind g r.kind fit.kind)) route }

-- ---- the section

module _ (p : MixedProof) (pairs : ForbiddenPairs) (all : AllowsEach pairs) where
  abbrev with_pairs : (ℕ → ℕ → Bool) → Section
  with_pairs allows = record { weight = p.weight; prices = p.prices; allows = allows; labels = map (priced_label p.prices) (labels_of p 0) }

  every_pair : allows_of pairs ≡ any_pair
  every_pair = λ i. λ a b. all a b i

  same_section : with_pairs (allows_of pairs) ≡ section_of p 0
  same_section = ap with_pairs every_pair

-- ---- the root

module _ (g : Network) (p : MixedProof) (customers : ℕ) (s : Section) (same : s ≡ section_of p 0) where
  root_to : (r : MixedRoot) → RootFits 1 customers r → RootHolds (g ∷ []) p r → PlainRootHolds g s (plain_root r)
  root_to root.None fits holds = subst ShowsNoPlan (sym same) holds
  root_to (root.Exact over shares) fits exact =
      let ones = shares_of_one shares fits.each in
      let here : IsExactRoot g (section_of p 0) over (own_shares shares) = record {
        cover = cover_to g 1 over (kind_shares shares) ones exact.cover;
        some_weight = exact.some_weight;
        cost = ap (λ (c : ℕ). pos (c * p.weight)) (sym (cover_cost g 1 (kind_shares shares) ones)) ∙ exact.cost;
      } in
      subst (λ (t : Section). IsExactRoot g t over (route_shares (map plain_share shares))) (sym same)
      (subst (λ (l : List RouteShare). IsExactRoot g (section_of p 0) over l) (sym (same_shares shares)) here)
  root_to (root.Wide columns basis) fits wide = record {
    routes = all_to (λ (r : MixedRoute). r.plan) (RouteFits 1) (λ (r : MixedRoute). IsKindRoute (g ∷ []) 1 (kind_plan r)) (λ (q : RoutePlan). IsFleetRoute g 1 q.stops) (route_to g) columns fits.each wide.routes;
    wide = subst (TooWide g basis) (same_columns g columns fits.each) wide.wide;
  }

  root_from : (r : MixedRoot) → RootFits 1 customers r → PlainRootHolds g s (plain_root r) → RootHolds (g ∷ []) p r
  root_from root.None fits holds = subst ShowsNoPlan same holds
  root_from (root.Exact over shares) fits exact =
      let ones = shares_of_one shares fits.each in
      let here : IsExactRoot g (section_of p 0) over (own_shares shares) =
      subst (λ (l : List RouteShare). IsExactRoot g (section_of p 0) over l) (same_shares shares) (subst (λ (t : Section). IsExactRoot g t over (route_shares (map plain_share shares))) same exact) in
      record {
        cover = cover_from g 1 over (kind_shares shares) ones here.cover;
        some_weight = here.some_weight;
        cost = ap (λ (c : ℕ). pos (c * p.weight)) (cover_cost g 1 (kind_shares shares) ones) ∙ here.cost;
      }
  root_from (root.Wide columns basis) fits wide = record {
    routes = all_from (λ (r : MixedRoute). r.plan) (RouteFits 1) (λ (r : MixedRoute). IsKindRoute (g ∷ []) 1 (kind_plan r)) (λ (q : RoutePlan). IsFleetRoute g 1 q.stops) (route_from g) columns fits.each wide.routes;
    wide = subst (TooWide g basis) (sym (same_columns g columns fits.each)) wide.wide;
  }

-- ---- the whole proof

module _ (g : Network) (p : MixedProof) (pairs : ForbiddenPairs) (fits : MixedFits (g ∷ []) p) (all : AllowsEach pairs) where
  pub proof_to : IsMixedAccepted (g ∷ []) p → IsAccepted g (as_certificate pairs p)
  proof_to accepted =
      let s = with_pairs p pairs all (allows_of pairs) in
      let same = same_section p pairs all in
      record {
        sections = All-cons (IsClosed g) s [] (subst (IsClosed g) (sym same) (accepted.closed 0 (omega arith))) (All-nil (IsClosed g));
        leaves = (leaf 0, refl, (s, refl, record { pairs = λ a b h. all a b; bounded = subst (λ (t : Section). IsBoundedBy t p.bound) (sym same) accepted.bound }));
        root = (s, refl, record { all = all; holds = root_to g p (listed_customers g) s same p.root fits.root_fits accepted.root });
      }

  closed_at : IsClosed g (section_of p 0) → (kind : ℕ) → kind < 1 → IsClosed (network_of (g ∷ []) kind) (section_of p kind)
  closed_at closed zero known = closed
  closed_at closed (suc kind) known = absurd (omega (arith, known))

  pub proof_from : IsAccepted g (as_certificate pairs p) → IsMixedAccepted (g ∷ []) p
  proof_from accepted =
      let s = with_pairs p pairs all (allows_of pairs) in
      let same = same_section p pairs all in
      let tree : accepted.leaves.0 ≡ leaf 0 = one_tree_of (Leaf 0 ∷ []) accepted.leaves.0 (leaf 0) accepted.leaves.1 refl in
      let under : LeavesAreUnder (s ∷ []) p.bound any_pair (leaf 0) = subst (λ (t : BranchTree). LeavesAreUnder (s ∷ []) p.bound any_pair t) tree accepted.leaves.2 in
      let bounded : IsBoundedBy s p.bound = subst (λ (t : Section). IsBoundedBy t p.bound) (sym (same_Some s under.0 under.1)) under.2.bounded in
      let root : IsRootOf g s (plain_root p.root) = subst (λ (t : Section). IsRootOf g t (plain_root p.root)) (sym (same_Some s accepted.root.0 accepted.root.1)) accepted.root.2 in
      record {
        closed = λ kind known. closed_at (subst (IsClosed g) same (All-head (IsClosed g) s [] accepted.sections)) kind known;
        bound = subst (λ (t : Section). IsBoundedBy t p.bound) same bounded;
        root = root_from g p (listed_customers g) s same p.root fits.root_fits root.holds;
      }
