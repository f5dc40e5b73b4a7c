-- What the bound of a node is.
use Rattle.std.specs.Prelude.{◌≡◌, ℕ, ◌*◌, List, map, pos}
use Rattle.customer_sets.specs.Pairs.{allows_of, ForbiddenPairs}
use Rattle.ev_model.specs.Fleet.{cost_of, IsFleetPlan}
use Rattle.ev_model.specs.Network.{Network}
use Rattle.ev_model.specs.declared.Stop.{Stop}
use Rattle.fleet_model.specs.ClosedList.{IsClosed}
use Rattle.fleet_model.specs.Cover.{CoverKeepsPairs, IsExactRoot}
use Rattle.fleet_model.specs.Pairs.{FleetKeepsPairs}
use Rattle.fleet_model.specs.Prices.{price_total}
use Rattle.fleet_model.specs.Section.{ShowsNoPlan}
use Rattle.fleet_model.specs.Strong.{AreRisingPrices, IsWideBasis}
use Rattle.route_plan.specs.declared.plan.RoutePlan.{RoutePlan}
use Rattle.bound_certificate.specs.Meaning.{basis_columns, priced_section, route_shares}
use Rattle.bound_certificate.specs.Ranges.{ColumnsFit, customer_count, SectionFits, SharesFit}
use Rattle.certificate_parts.specs.declared.entry.BasisEntry.{BasisEntry}
use Rattle.bound_certificate.specs.declared.certificate.Section.{Section}
use Rattle.bound_certificate.specs.declared.certificate.Share.{Share}
use Rattle.column_pool.specs.declared.bound.NodeBound.{NodeBound}
use Rattle.column_pool.specs.declared.bound.NodeBound.TheVariants.{Exact, Empty, Wide}

-- a section with exactly a node's pairs, whose labels are closed, in the ranges of a certificate
pub record IsNodeSection (g : Network) (p : ForbiddenPairs) (s : Section) : Type 0 where
  pub pairs : s.pairs ≡ p
  pub closed : IsClosed g (priced_section s)
  pub fits : SectionFits g s

-- routes that keep the pairs have shares that are a cover at the section's price sum over its weight
pub record IsExact (g : Network) (p : ForbiddenPairs) (s : Section) (over : ℕ)
    (shares : List Share) : Type 0 where
  pub section : IsNodeSection g p s
  pub exact : IsExactRoot g (priced_section s) over (route_shares shares)
  pub keeps : CoverKeepsPairs g (allows_of p) (route_shares shares)
  pub fits : SharesFit over shares

-- the section shows that no fleet plan keeps the pairs
pub record IsEmpty (g : Network) (p : ForbiddenPairs) (s : Section) : Type 0 where
  pub section : IsNodeSection g p s
  pub none : ShowsNoPlan (priced_section s)

-- the columns have a basis that is too wide, and the section has weight 1 and the rising prices of the pairs
pub record IsWide (g : Network) (p : ForbiddenPairs) (columns : List RoutePlan)
    (basis : List BasisEntry) (s : Section) : Type 0 where
  pub section : IsNodeSection g p s
  pub wide : IsWideBasis g (map (λ c. c.stops) columns) (basis_columns g columns basis)
  pub weight : s.weight ≡ 1
  pub prices : AreRisingPrices g (allows_of p) s.prices
  pub fits : ColumnsFit (customer_count g) columns basis

abbrev pub IsNodeBound : Network → ForbiddenPairs → NodeBound → Type 0
IsNodeBound g p (Exact section over shares) = IsExact g p section over shares
IsNodeBound g p (Empty section) = IsEmpty g p section
IsNodeBound g p (Wide columns basis section) = IsWide g p columns basis section

abbrev pub section_of : NodeBound → Section
section_of (Exact section over shares) = section
section_of (Empty section) = section
section_of (Wide columns basis section) = section

-- the plans that have shares
abbrev pub plans_of : List Share → List (List Stop)
plans_of shares = map (λ x. x.plan.stops) shares

-- the plans are a fleet plan that keeps the pairs, and cost exactly the price sum over the weight
pub record IsPlanAtBound (g : Network) (p : ForbiddenPairs) (s : Section)
    (plans : List (List Stop)) : Type 0 where
  pub fleet : IsFleetPlan g 1 plans
  pub keeps : FleetKeepsPairs g (allows_of p) plans
  pub cost : price_total s.prices ≡ pos (s.weight * cost_of g 1 plans)

-- where the pairs are decided: the plans that have shares are a fleet plan at the bound of the section, or there is none
abbrev pub IsBoundOfDecided : Network → ForbiddenPairs → NodeBound → Type 0
IsBoundOfDecided g p (Exact section over shares) =
    IsPlanAtBound g p section (plans_of shares)
IsBoundOfDecided g p (Empty section) = Unit {0}
IsBoundOfDecided g p (Wide columns basis section) = ⊥
