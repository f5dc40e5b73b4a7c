-- The root of a proof, from what is told of its listed routes.
use Rattle.std.proofs.Common.{◌≡◌, ◌∙◌, ℕ, ◌*◌, ◌≤◌, Bool, true, false, not, List, [], ◌∷◌, Option, Some, None, Result, Ok, Err, length, map, sym, ap, subst, arith, inl, inr, ℤ, pos}
use Rattle.std.specs.List.{All, AllZip}
use Rattle.std.specs.Prelude.{IfOk, is_some, option_map}
use Rattle.std.proofs.lemmas.Bool.{false≢true}
use Rattle.std.proofs.lemmas.List.Elements.{All-cons, All-head, All-nil, All-tail}
use Rattle.ev_model.specs.Network.{Network, node_count}
use Rattle.fleet_model.specs.Equations.{Column}
use Rattle.fleet_model.specs.Places.{customer_count, customer_number}
use Rattle.fleet_model.proofs.Counts.{number_less}
use Rattle.bound_certificate.specs.Meaning.{entry_column}
use Rattle.certificate_parts.specs.declared.entry.BasisEntry.{BasisEntry}
use Rattle.master_table.specs.declared.listed.ListedRoute.{ListedRoute}
use Rattle.certificate_check.specs.Bounds.{IsBoundOf}
use Rattle.certificate_check.specs.Columns.{StandFor, TellsTooWide}
use Rattle.certificate_check.specs.Shares.{AreUneven, listed_cost, shares_at, TellsCover}
use Rattle.certificate_check.specs.declared.cover.SharedRoute.{SharedRoute}
use Rattle.certificate_check.proofs.FleetRoutes.{node_of}
use Rattle.certificate_check.proofs.Zips.{zip_left}
use Rattle.mixed_model.specs.Covers.{IsExactCover, IsKindRoute, KindShare, mixed_cost_of_shares}
use Rattle.mixed_model.specs.Kinds.{AreKinds, first_of}
use Rattle.mixed_model.specs.Meaning.{kind_plan, kind_shares, mixed_columns, section_of}
use Rattle.mixed_model.specs.Ranges.{ShareFits, SharesFit}
use Rattle.mixed_model.specs.declared.proof.MixedProof.{MixedProof}
use Rattle.mixed_model.specs.declared.proof.MixedRoot.TheVariants as root
use Rattle.mixed_model.specs.declared.proof.MixedRoute.{MixedRoute}
use Rattle.mixed_model.specs.declared.proof.MixedShare.{MixedShare}
use Rattle.mixed_model.specs.Tellings.{IsListedIn, IsSharedIn, TellsColumns, TellsExact, TellsRoot, TellsShares, TellsWide}
use Rattle.mixed_model.proofs.KindRoutes.{costs_are, route_in, shares_are, stand_for}

abbrev kind_share : MixedShare → KindShare
kind_share x = record { share = x.share; plan = kind_plan x.route }

routes_are : (kinds : List Network) (xs : List MixedShare) (ys : List SharedRoute) → AllZip (IsSharedIn kinds) xs ys → All (λ (x : KindShare). IsKindRoute kinds 1 x.plan) (kind_shares xs)
routes_are kinds [] [] zip = All-nil (λ (x : KindShare). IsKindRoute kinds 1 x.plan)
routes_are kinds [] (y ∷ ys) zip = absurd zip
routes_are kinds (x ∷ xs) [] zip = absurd zip
routes_are kinds (x ∷ xs) (y ∷ ys) zip =
    All-cons (λ (z : KindShare). IsKindRoute kinds 1 z.plan) (kind_share x) (kind_shares xs) (route_in kinds x.route y.route zip.0.listed) (routes_are kinds xs ys zip.1)

some_shares : (n : ℕ) (xs : List MixedShare) → All (ShareFits n) xs → All (λ (x : KindShare). 1 ≤ x.share) (kind_shares xs)
some_shares n [] each = All-nil (λ (x : KindShare). 1 ≤ x.share)
some_shares n (x ∷ xs) each =
    All-cons (λ (y : KindShare). 1 ≤ y.share) (kind_share x) (kind_shares xs) (All-head (ShareFits n) x xs each).share.some (some_shares n xs (All-tail (ShareFits n) x xs each))

-- the routes of shares
share_routes : (kinds : List Network) (xs : List MixedShare) → All (λ (x : KindShare). IsKindRoute kinds 1 x.plan) (kind_shares xs) → All (λ (x : MixedShare). IsKindRoute kinds 1 (kind_plan x.route)) xs
share_routes kinds [] all = All-nil (λ (x : MixedShare). IsKindRoute kinds 1 (kind_plan x.route))
share_routes kinds (x ∷ xs) all =
    All-cons (λ (y : MixedShare). IsKindRoute kinds 1 (kind_plan y.route)) x xs (All-head (λ (z : KindShare). IsKindRoute kinds 1 z.plan) (kind_share x) (kind_shares xs) all)
    (share_routes kinds xs (All-tail (λ (z : KindShare). IsKindRoute kinds 1 z.plan) (kind_share x) (kind_shares xs) all))

module _ (kinds : List Network) (are : AreKinds kinds) (p : MixedProof) (over : ℕ) (xs : List MixedShare) (ys : List SharedRoute) (fit : SharesFit (length kinds) over xs) (zip : AllZip (IsSharedIn kinds) xs ys) where
  same_cost : pos (mixed_cost_of_shares kinds 1 (kind_shares xs) * p.weight) ≡ pos (listed_cost ys * p.weight)
  same_cost = ap (λ (n : ℕ). pos (n * p.weight)) (costs_are kinds xs ys zip)

  uneven : AreUneven (customer_count (first_of kinds)) over ys → IsExactCover kinds p.weight p.prices over (kind_shares xs) → ⊥
  uneven found exact =
      let first = first_of kinds in
      let node = node_of first (node_count first) found.0 found.1 in
      found.2 (ap (λ (c : ℕ). shares_at c ys) (sym node.3) ∙ sym (shares_are kinds are node.0 node.1 node.2 xs ys zip) ∙ exact.cover.covers node.0 node.1 node.2)

  -- what is told of the listed routes is told of the shares
  pub exact_by : (b : Bool) → TellsCover (customer_count (first_of kinds)) p.weight p.prices over ys b → TellsExact kinds p over xs b
  exact_by true is = record {
    cover = record {
      some_weight = fit.over_weight.some;
      some_share = some_shares (length kinds) xs fit.each;
      routes = routes_are kinds xs ys zip;
      covers = λ node known customer.
          shares_are kinds are node known customer xs ys zip
          ∙ is.even (customer_number (first_of kinds) node) (number_less (first_of kinds) node (node_count (first_of kinds)) customer known);
    };
    some_weight = is.some_weight;
    cost = same_cost ∙ is.cost;
  }
  exact_by false (inl found) = uneven found
  exact_by false (inr (inl none)) = λ exact. let some = exact.some_weight in omega (arith, none, some)
  exact_by false (inr (inr other)) = λ exact. other (sym same_cost ∙ exact.cost)

module _ (kinds : List Network) (columns : List MixedRoute) (basis : List BasisEntry) (routes : List ListedRoute) (zip : AllZip (IsListedIn kinds) columns routes) where
  root_by : (answer : Bool) → TellsTooWide (customer_count (first_of kinds)) (mixed_columns kinds columns) (map (entry_column (mixed_columns kinds columns)) basis) answer → TellsWide kinds columns basis answer
  root_by true is = record {
    routes = zip_left (IsListedIn kinds) (λ (r : MixedRoute). IsKindRoute kinds 1 (kind_plan r)) (route_in kinds) columns routes zip;
    wide = is;
  }
  root_by false is = λ root. is root.wide

  pub wide_by : {E : Type 0} (n : ℕ) (r : Result Bool E) → n ≡ customer_count (first_of kinds) →
      IfOk r (λ answer. (others : List Column) → StandFor others routes → TellsTooWide n others (map (entry_column others) basis) answer) → IfOk r (TellsWide kinds columns basis)
  wide_by n (Ok answer) count is =
      root_by answer
      (subst (λ (k : ℕ). TellsTooWide k (mixed_columns kinds columns) (map (entry_column (mixed_columns kinds columns)) basis) answer) count
      (is (mixed_columns kinds columns) (stand_for kinds columns routes zip)))
  wide_by n (Err e) count is = tt

-- ---- what is told of the root, from what is told of its kind

module _ (kinds : List Network) (p : MixedProof) where
  pub none_told : (o : Option ℤ) (b : Bool) → is_some o ≡ not b → IsBoundOf (section_of p 0) o → TellsRoot kinds p root.None b
  none_told None true is bound = bound
  none_told None false is bound = absurd (false≢true is)
  none_told (Some own) true is bound = absurd (false≢true (sym is))
  none_told (Some own) false is bound = bound.0

  pub exact_told : {E : Type 0} (over : ℕ) (shares : List MixedShare) (r : Result Bool E) → IfOk r (TellsExact kinds p over shares) → IfOk r (TellsRoot kinds p (root.Exact over shares))
  exact_told over shares (Ok true) is = is
  exact_told over shares (Ok false) is = is
  exact_told over shares (Err e) is = tt

  pub wide_told : {E : Type 0} (columns : List MixedRoute) (basis : List BasisEntry) (r : Result Bool E) → IfOk r (TellsWide kinds columns basis) → IfOk r (TellsRoot kinds p (root.Wide columns basis))
  wide_told columns basis (Ok true) is = is
  wide_told columns basis (Ok false) is = is
  wide_told columns basis (Err e) is = tt

-- ---- where routes are told, and where one is none

module _ {V : Type 0} (kinds : List Network) where
  pub shares_listed : (shares : List MixedShare) (items : V → List SharedRoute) (o : Option V) (v : V) → o ≡ Some v → TellsShares kinds shares (option_map items o) → AllZip (IsSharedIn kinds) shares (items v)
  shares_listed shares items o v is told = subst (λ x. TellsShares kinds shares (option_map items x)) is told

  pub shares_none : (shares : List MixedShare) (items : V → List SharedRoute) (o : Option V) → o ≡ None → TellsShares kinds shares (option_map items o) → All (λ (x : KindShare). IsKindRoute kinds 1 x.plan) (kind_shares shares) → ⊥
  shares_none shares items o is told all =
      let none = subst (λ x. TellsShares kinds shares (option_map items x)) is told in
      none (share_routes kinds shares all)

  pub columns_listed : (columns : List MixedRoute) (items : V → List ListedRoute) (o : Option V) (v : V) → o ≡ Some v → TellsColumns kinds columns (option_map items o) → AllZip (IsListedIn kinds) columns (items v)
  columns_listed columns items o v is told = subst (λ x. TellsColumns kinds columns (option_map items x)) is told

  pub columns_none : (columns : List MixedRoute) (items : V → List ListedRoute) (o : Option V) → o ≡ None → TellsColumns kinds columns (option_map items o) → All (λ (r : MixedRoute). IsKindRoute kinds 1 (kind_plan r)) columns → ⊥
  columns_none columns items o is told = subst (λ x. TellsColumns kinds columns (option_map items x)) is told
