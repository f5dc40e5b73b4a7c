-- Accepted certificates: what shows that no fleet plan costs less than the bound of a certificate, and that the
-- bound of its first section is the linear optimum (branch and price: Desaulniers, Desrosiers, Solomon 2005).
use Rattle.std.specs.Prelude.{◌≡◌, ℕ, true, List, Some, slice_get}
use Rattle.std.specs.List.{All}
use Rattle.customer_sets.specs.Pairs.{any_pair}
use Rattle.ev_model.specs.Network.{Network}
use Rattle.fleet_model.specs.ClosedList.{IsClosed}
use Rattle.fleet_model.specs.Cover.{IsExactRoot, IsFleetRoute}
use Rattle.fleet_model.specs.Places.{customer_count}
use Rattle.fleet_model.specs.Section.{Section, ShowsNoPlan}
use Rattle.fleet_model.specs.Tree.{BranchTree, LeavesAreUnder}
use Rattle.fleet_model.specs.Wide.{IsTooWide}
use Rattle.route_plan.specs.declared.plan.RoutePlan.{RoutePlan}
use Rattle.bound_certificate.specs.Meaning.{basis_columns, IsTreeOf, priced_sections, route_columns, route_shares}
use Rattle.certificate_parts.specs.declared.entry.BasisEntry.{BasisEntry}
use Rattle.bound_certificate.specs.declared.certificate.Certificate.{Certificate}
use Rattle.bound_certificate.specs.declared.certificate.Root.{Root}
use Rattle.bound_certificate.specs.declared.certificate.Root.TheVariants as root

-- the section of a certificate with a number
abbrev pub IsSectionAt : Certificate → ℕ → Section → Type 0
IsSectionAt c number s = slice_get (priced_sections c.sections) number ≡ Some s

-- no pair is forbidden
abbrev pub AllowsAll : Section → Type 0
AllowsAll s = (a b : ℕ) → s.allows a b ≡ true

-- the listed routes are routes of a fleet, and the basis over them is too wide to go on
pub record IsWideRoot (g : Network) (columns : List RoutePlan)
    (basis : List BasisEntry) : Type 0 where
  pub routes : All (λ p. IsFleetRoute g 1 p.stops) columns
  pub wide : IsTooWide (customer_count g) (route_columns g columns) (basis_columns g columns basis)

-- what the root shows of the first section: that there is no fractional cover; that its bound is the least cost of
-- one; or that the numbers of a basis are too wide to go on
abbrev pub RootHolds : Network → Section → Root → Type 0
RootHolds g s root.None = ShowsNoPlan s
RootHolds g s (root.Exact over shares) = IsExactRoot g s over (route_shares shares)
RootHolds g s (root.Wide columns basis) = IsWideRoot g columns basis

-- the first section has no forbidden pair, and the root shows what it says of it
pub record IsRootOf (g : Network) (s : Section) (r : Root) : Type 0 where
  pub all : AllowsAll s
  pub holds : RootHolds g s r

-- each section is closed, each leaf of the tree names one whose forbidden pairs are among the leaf's and whose
-- bound is at least that of the certificate, and the root holds
pub record IsAccepted (g : Network) (c : Certificate) : Type 0 where
  pub sections : All (IsClosed g) (priced_sections c.sections)
  pub leaves : (tree : BranchTree) × IsTreeOf c.tree tree ×
      LeavesAreUnder (priced_sections c.sections) c.bound any_pair tree
  pub root : (s : Section) × IsSectionAt c 0 s × IsRootOf g s c.root
