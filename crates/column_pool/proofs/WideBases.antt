-- A basis past the caps is a listed basis that is too wide.
use Rattle.std.proofs.Common.{◌≡◌, ◌∙◌, ℕ, zero, suc, ◌+◌, ◌<◌, ◌≤◌, ◌^◌, arith, refl, sym, ap, subst, List, [], ◌∷◌, length, get_or, map}
use Rattle.std.specs.List.{All, Contains}
use Rattle.std.proofs.lemmas.List.{length-append, length-map}
use Rattle.std.proofs.lemmas.List.Elements.{All-map, All-weaker}
use Rattle.customer_sets.specs.Pairs.{allows_of, ForbiddenPairs}
use Rattle.ev_model.specs.Network.{IsNetwork, Network}
use Rattle.fleet_model.specs.Cover.{IsFleetRoute}
use Rattle.fleet_model.specs.Equations.{Column, column_at, helpers}
use Rattle.fleet_model.specs.Places.{customer_count}
use Rattle.fleet_model.specs.Strong.{AreRisingPrices, column_of}
use Rattle.fleet_model.proofs.Numbers.{counted}
use Rattle.instance_reader.specs.Instance.{customer_nodes}
use Rattle.master_table.specs.Tableau.{Limits}
use Rattle.route_plan.specs.declared.plan.RoutePlan.{RoutePlan}
use Rattle.bound_certificate.specs.Limits.{most_items}
use Rattle.bound_certificate.specs.Meaning.{basis_columns, entry_column, route_columns}
use Rattle.bound_certificate.specs.Ranges.{ColumnFits, ColumnsFit, EntryFits}
use Rattle.certificate_parts.specs.declared.entry.BasisEntry.{BasisEntry}
use Rattle.bound_certificate.specs.declared.certificate.Section.{Section}
use Rattle.bound_certificate.specs.Entries.{entry_of}
use Rattle.bound_certificate.proofs.Entries.{different, entries_are, entry_fits, many_helpers}
use Rattle.price_loop.proofs.ListedBases.{at_certificate_caps, too_wide_at}
use Rattle.column_pool.specs.Bounds.{IsNodeBound, IsNodeSection}
use Rattle.column_pool.specs.Columns.{AreNodeRoutes, IsNodeRoute}
use Rattle.column_pool.specs.TooWide.{columns_of, IsNodeBoundAt, IsPastBasis, IsWideAt, IsWideBasisAt}
use Rattle.column_pool.specs.declared.bound.NodeBound.{NodeBound}
use Rattle.column_pool.specs.declared.bound.NodeBound.TheVariants.{Exact, Empty, Wide}
use Rattle.route_plan.proofs.PlanRanges.{feasible_fits}

-- ---- the columns that entries name
same_routes : (g : Network) (plans : List RoutePlan) → route_columns g plans ≡ map (column_of g) (map (λ c. c.stops) plans)
same_routes g [] = refl
same_routes g (plan ∷ plans) = ap (λ (bs : List Column). column_of g plan.stops ∷ bs) (same_routes g plans)

-- ---- columns that are listed
any_default : (bs : List Column) (j : ℕ) (b : Column) → j < length bs → get_or bs j b ≡ column_at bs j
any_default [] j b less = absurd (omega (arith, less))
any_default (x ∷ xs) zero b less = refl
any_default (x ∷ xs) (suc j) b less = any_default xs j b (omega (arith, less))

listed : (columns : List Column) (basis : List ℕ) → All (λ j. j < length columns) basis → All (Contains columns) (map (column_at columns) basis)
listed columns basis within = All-map (Contains columns) (column_at columns) basis (All-weaker (λ j. j < length columns) (λ j. Contains columns (column_at columns j)) (λ j less. (j, less, any_default columns j (column_at columns j) less)) basis within)

-- ---- all of it
module _ (g : Network) (p : ForbiddenPairs) (caps : Limits) (plans : List RoutePlan) (basis : List ℕ) (routes : AreNodeRoutes g p plans) (is_past : IsPastBasis g caps plans basis) where
  abbrev n : ℕ
  n = customer_count g

  abbrev entries : List BasisEntry
  entries = map (entry_of n) basis

  abbrev added : List Column
  added = map (column_of g) (map (λ c. c.stops) plans)

  named : basis_columns g plans entries ≡ map (column_at (columns_of g plans)) basis
  named = ap (λ bs. map (entry_column bs) entries) (same_routes g plans) ∙ entries_are n added basis

  fleet_routes : All (IsFleetRoute g 1) (map (λ c. c.stops) plans)
  fleet_routes = All-map (IsFleetRoute g 1) (λ (c : RoutePlan). c.stops) plans (All-weaker (λ (c : RoutePlan). IsNodeRoute g p c.stops) (λ c. IsFleetRoute g 1 c.stops) (λ c r. r.route) plans routes)

  many : length (columns_of g plans) ≡ n + length plans
  many =
      let a = length-append (helpers n) added in
      let b = many_helpers n in
      let d = length-map (map (λ (c : RoutePlan). c.stops) plans) (column_of g) in
      let e = length-map plans (λ (c : RoutePlan). c.stops) in
      omega (arith, a, b, d, e)

  wide_basis : IsWideBasisAt caps.body caps.cost g (map (λ c. c.stops) plans) (basis_columns g plans entries)
  wide_basis =
      let P = IsWideBasisAt caps.body caps.cost g (map (λ (c : RoutePlan). c.stops) plans) in
      subst P (sym named) (record {
        routes = fleet_routes;
        listed = listed (columns_of g plans) basis is_past.placed;
        too_wide = too_wide_at caps.body caps.cost n added (map (column_at (columns_of g plans)) basis) is_past.past;
      })

  columns_fit : IsNetwork g → length plans ≤ most_items → ColumnsFit (length (customer_nodes g)) plans entries
  columns_fit network few =
      let count = is_past.past.is_basis.count in
      let inside = All-weaker (λ (j : ℕ). j < length (columns_of g plans)) (λ j. EntryFits n (length plans) (entry_of n j)) (λ j less. entry_fits n (length plans) j (omega (arith, less, many))) basis is_past.placed in
      let same = counted g in
      record {
        few = few;
        each = All-weaker (λ (c : RoutePlan). IsNodeRoute g p c.stops) ColumnFits (λ c r. feasible_fits g g.capacity c.stops network r.route.feasible) plans routes;
        basis_fits = record {
          count = length-map basis (entry_of n) ∙ sym (length-map basis (column_at (columns_of g plans))) ∙ count ∙ sym same;
          entries = subst (λ k. All (EntryFits k (length plans)) entries) (sym same) (All-map (EntryFits n (length plans)) (entry_of n) basis inside);
          different = different n basis is_past.apart;
        };
      }

  pub wide_at : (s : Section) → IsNetwork g → length plans ≤ most_items → IsNodeSection g p s → s.weight ≡ 1 → AreRisingPrices g (allows_of p) s.prices → IsWideAt caps.body caps.cost g p plans (map (entry_of (length (customer_nodes g))) basis) s
  wide_at s network few section weight prices =
      let same : map (entry_of (length (customer_nodes g))) basis ≡ entries = ap (λ k. map (entry_of k) basis) (counted g) in
      subst (λ (es : List BasisEntry). IsWideAt caps.body caps.cost g p plans es s) (sym same) (record {
        section = section;
        wide = wide_basis;
        weight = weight;
        prices = prices;
        fits = columns_fit network few;
      })

-- at the caps of certificates a bound is that of a node
pub bound_is : (g : Network) (p : ForbiddenPairs) (b : NodeBound) → IsNodeBoundAt (2 ^ 40) (2 ^ 84) g p b → IsNodeBound g p b
bound_is g p (Exact section over shares) is = is
bound_is g p (Empty section) is = is
bound_is g p (Wide columns basis section) is =
    let basis_is = is.wide in
    record {
      section = is.section;
      wide = record {
        routes = basis_is.routes;
        listed = basis_is.listed;
        too_wide = at_certificate_caps (customer_count g) (map (column_of g) (map (λ c. c.stops) columns)) (basis_columns g columns basis) basis_is.too_wide;
      };
      weight = is.weight;
      prices = is.prices;
      fits = is.fits;
    }
