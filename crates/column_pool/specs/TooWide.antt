-- Bounds by a basis that is too wide, at caps of any size.
use Rattle.std.specs.Prelude.{◌≡◌, ℕ, List, ◌++◌, map}
use Rattle.std.specs.List.{All, Contains}
use Rattle.customer_sets.specs.Pairs.{allows_of, ForbiddenPairs}
use Rattle.ev_model.specs.Network.{Network}
use Rattle.ev_model.specs.declared.Stop.{Stop}
use Rattle.fleet_model.specs.Cover.{IsFleetRoute}
use Rattle.fleet_model.specs.Equations.{Column, helpers}
use Rattle.fleet_model.specs.Places.{customer_count}
use Rattle.fleet_model.specs.Strong.{AreRisingPrices, column_of}
use Rattle.master_table.specs.Tableau.{Limits}
use Rattle.price_loop.specs.Masters.{IsPastBasis as IsPastAmong, IsTooWideAt}
use Rattle.route_plan.specs.declared.plan.RoutePlan.{RoutePlan}
use Rattle.bound_certificate.specs.Meaning.{basis_columns}
use Rattle.bound_certificate.specs.Ranges.{ColumnsFit, customer_count as count_customers}
use Rattle.certificate_parts.specs.declared.entry.BasisEntry.{BasisEntry}
use Rattle.bound_certificate.specs.declared.certificate.Section.{Section}
use Rattle.column_pool.specs.Bounds.{IsEmpty, IsExact, IsNodeSection}
use Rattle.column_pool.specs.declared.bound.NodeBound.{NodeBound}
use Rattle.column_pool.specs.declared.bound.NodeBound.TheVariants.{Exact, Empty, Wide}

-- entries of a basis that is too wide for the caps: helpers, and columns of feasible routes
pub record IsWideBasisAt (body cost : ℕ) (g : Network) (plans : List (List Stop))
    (entries : List Column) : Type 0 where
  pub routes : All (IsFleetRoute g 1) plans
  pub listed : All (Contains (helpers (customer_count g) ++ map (column_of g) plans)) entries
  pub too_wide : IsTooWideAt body cost (customer_count g) (map (column_of g) plans) entries

-- the columns have such a basis, and the section has weight 1 and the rising prices of the pairs
pub record IsWideAt (body cost : ℕ) (g : Network) (p : ForbiddenPairs) (columns : List RoutePlan)
    (basis : List BasisEntry) (s : Section) : Type 0 where
  pub section : IsNodeSection g p s
  pub wide : IsWideBasisAt body cost g (map (λ c. c.stops) columns) (basis_columns g columns basis)
  pub weight : s.weight ≡ 1
  pub prices : AreRisingPrices g (allows_of p) s.prices
  pub fits : ColumnsFit (count_customers g) columns basis

-- what the bound of a node is, where a basis is too wide for these caps
abbrev pub IsNodeBoundAt : ℕ → ℕ → Network → ForbiddenPairs → NodeBound → Type 0
IsNodeBoundAt body cost g p (Exact section over shares) = IsExact g p section over shares
IsNodeBoundAt body cost g p (Empty section) = IsEmpty g p section
IsNodeBoundAt body cost g p (Wide columns basis section) =
    IsWideAt body cost g p columns basis section

-- the columns of the master problem over these plans: the customers' helpers, then the routes
abbrev pub columns_of : Network → List RoutePlan → List Column
columns_of g plans =
    helpers (customer_count g) ++ map (column_of g) (map (λ c. c.stops) plans)

-- the numbers are those of a basis of these columns that is past the caps, no two of them the same
abbrev pub IsPastBasis : Network → Limits → List RoutePlan → List ℕ → Type 0
IsPastBasis g caps plans basis =
    IsPastAmong (customer_count g) caps (columns_of g plans) basis
