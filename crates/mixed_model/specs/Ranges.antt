-- The ranges of a proof for several kinds of vehicles: which numbers may stand where.
use Rattle.std.specs.Prelude.{◌≡◌, ℕ, ◌<◌, ◌≤◌, List, IfSome, length}
use Rattle.std.specs.List.{All}
use Rattle.ev_model.specs.Network.{Network}
use Rattle.certificate_parts.specs.Limits.{greatest_bound, greatest_weight, most_items}
use Rattle.certificate_parts.specs.Ranges.{BasisFits, ColumnFits, customer_count, IsPrice, IsWeight, LabelFits}
use Rattle.certificate_parts.specs.declared.entry.BasisEntry.{BasisEntry}
use Rattle.mixed_model.specs.Kinds.{first_of, network_of}
use Rattle.mixed_model.specs.Meaning.{labels_of}
use Rattle.mixed_model.specs.declared.proof.MixedProof.{MixedProof}
use Rattle.mixed_model.specs.declared.proof.MixedRoot.{MixedRoot}
use Rattle.mixed_model.specs.declared.proof.MixedRoot.TheVariants as root
use Rattle.mixed_model.specs.declared.proof.MixedRoute.{MixedRoute}
use Rattle.mixed_model.specs.declared.proof.MixedShare.{MixedShare}

-- a route of one of so many kinds that may stand in a text
pub record RouteFits (count : ℕ) (r : MixedRoute) : Type 0 where
  pub kind : r.kind < count
  pub plan : ColumnFits r.plan

pub record ShareFits (count : ℕ) (x : MixedShare) : Type 0 where
  pub share : IsWeight x.share
  pub route : RouteFits count x.route

pub record SharesFit (count over : ℕ) (shares : List MixedShare) : Type 0 where
  pub over_weight : IsWeight over
  pub few : length shares ≤ most_items
  pub each : All (ShareFits count) shares

pub record ColumnsFit (count customers : ℕ) (columns : List MixedRoute)
    (basis : List BasisEntry) : Type 0 where
  pub few : length columns ≤ most_items
  pub each : All (RouteFits count) columns
  pub basis_fits : BasisFits customers (length columns) basis

abbrev pub RootFits : ℕ → ℕ → MixedRoot → Type 0
RootFits count customers root.None = Unit {0}
RootFits count customers (root.Exact over shares) = SharesFit count over shares
RootFits count customers (root.Wide columns basis) = ColumnsFit count customers columns basis

-- the labels of a kind are in the ranges of its network
pub record LabelsFit (g : Network) (p : MixedProof) (kind : ℕ) : Type 0 where
  pub few : length (labels_of p kind) ≤ most_items
  pub each : All (LabelFits g) (labels_of p kind)

-- the proof is in the ranges of the kinds, with a list of labels for each of them
pub record MixedFits (kinds : List Network) (p : MixedProof) : Type 0 where
  pub bound : IfSome p.bound (λ b. b ≤ greatest_bound)
  pub weight : p.weight ≤ greatest_weight
  pub one_price : length p.prices ≡ customer_count (first_of kinds)
  pub prices : All IsPrice p.prices
  pub one_list : length p.labels ≡ length kinds
  pub labels : (kind : ℕ) → kind < length kinds → LabelsFit (network_of kinds kind) p kind
  pub root_fits : RootFits (length kinds) (customer_count (first_of kinds)) p.root
