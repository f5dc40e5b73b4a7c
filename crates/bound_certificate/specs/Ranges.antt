-- The ranges of a certificate: which numbers may stand where, on a network.
use Rattle.std.specs.Prelude.{◌≡◌, ◌≢◌, ℕ, ◌<◌, ◌≤◌, List, IfSome, length}
use Rattle.std.specs.List.{All}
use Rattle.ev_model.specs.Network.{Network}
use Rattle.route_plan.specs.PlanTexts.{FitsText}
use Rattle.route_plan.specs.declared.plan.RoutePlan.{RoutePlan}
use Rattle.certificate_parts.specs.Limits.{greatest_bound, greatest_weight, most_items}
use Rattle.bound_certificate.specs.Trees.{IsWholeTree}
use Rattle.certificate_parts.specs.declared.entry.BasisEntry.{BasisEntry}
use Rattle.bound_certificate.specs.declared.certificate.Certificate.{Certificate}
use Rattle.bound_certificate.specs.declared.certificate.Root.{Root}
use Rattle.bound_certificate.specs.declared.certificate.Root.TheVariants as root
use Rattle.bound_certificate.specs.declared.certificate.Section.{Section}
use Rattle.bound_certificate.specs.declared.certificate.Share.{Share}
use Rattle.bound_certificate.specs.declared.certificate.TreeLine.{TreeLine}
use Rattle.bound_certificate.specs.declared.certificate.TreeLine.TheVariants.{Split, Leaf}
use Rattle.certificate_parts.specs.Ranges.{IsWeight}
pub use Rattle.certificate_parts.specs.Ranges.{AreDifferent, BasisFits, ColumnFits, EntryFits, IsLast, IsPrice, LabelFits}
pub use Rattle.certificate_parts.specs.Ranges.{PointFits, customer_count, same_entry}

-- a share, and a route that may stand in a text
pub record ShareFits (x : Share) : Type 0 where
  pub share : IsWeight x.share
  pub plan : FitsText x.plan.stops

pub record SharesFit (over : ℕ) (shares : List Share) : Type 0 where
  pub over_weight : IsWeight over
  pub few : length shares ≤ most_items
  pub each : All ShareFits shares

pub record ColumnsFit (customers : ℕ) (columns : List RoutePlan)
    (basis : List BasisEntry) : Type 0 where
  pub few : length columns ≤ most_items
  pub each : All ColumnFits columns
  pub basis_fits : BasisFits customers (length columns) basis

abbrev pub RootFits : ℕ → Root → Type 0
RootFits customers root.None = Unit {0}
RootFits customers (root.Exact over shares) = SharesFit over shares
RootFits customers (root.Wide columns basis) = ColumnsFit customers columns basis

pub record SectionFits (g : Network) (s : Section) : Type 0 where
  pub weight : s.weight ≤ greatest_weight
  pub one_price : length s.prices ≡ customer_count g
  pub prices : All IsPrice s.prices
  pub pairs : s.pairs.customers ≡ customer_count g
  pub few : length s.labels ≤ most_items
  pub labels : All (LabelFits g) s.labels

-- the place of a customer, among so many
abbrev pub IsCustomerPlace : ℕ → ℕ → Type 0
IsCustomerPlace customers place = (1 ≤ place) × (place ≤ customers)

-- a split is on two different customers, and a leaf names one of the sections
abbrev pub LineFits : ℕ → ℕ → TreeLine → Type 0
LineFits customers sections (Split i j) =
    IsCustomerPlace customers i × IsCustomerPlace customers j × (i ≢ j)
LineFits customers sections (Leaf section) = section < sections

-- the certificate is in the ranges of the network, and its tree is a whole one
pub record Fits (g : Network) (c : Certificate) : Type 0 where
  pub bound : IfSome c.bound (λ b. b ≤ greatest_bound)
  pub root_fits : RootFits (customer_count g) c.root
  pub some : 1 ≤ length c.sections
  pub few : length c.sections ≤ most_items
  pub sections : All (SectionFits g) c.sections
  pub lines : All (LineFits (customer_count g) (length c.sections)) c.tree
  pub whole : IsWholeTree c.tree
