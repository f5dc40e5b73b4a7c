-- Accepted proofs for several kinds of vehicles: what shows that no plan of such a fleet costs less
-- than the bound (column generation and its dual bound: Desaulniers, Desrosiers, Solomon 2005).
use Rattle.std.specs.Prelude.{ℕ, ◌<◌, List, length}
use Rattle.std.specs.List.{All}
use Rattle.ev_model.specs.Network.{Network}
use Rattle.fleet_model.specs.ClosedList.{IsClosed}
use Rattle.fleet_model.specs.Places.{customer_count}
use Rattle.fleet_model.specs.Section.{ShowsNoPlan}
use Rattle.fleet_model.specs.Tree.{IsBoundedBy}
use Rattle.fleet_model.specs.Wide.{IsTooWide}
use Rattle.certificate_parts.specs.declared.entry.BasisEntry.{BasisEntry}
use Rattle.mixed_model.specs.Covers.{IsExactCover, IsKindRoute}
use Rattle.mixed_model.specs.Kinds.{first_of, network_of}
use Rattle.mixed_model.specs.Meaning.{kind_plan, kind_shares, mixed_basis, mixed_columns, section_of}
use Rattle.mixed_model.specs.declared.proof.MixedProof.{MixedProof}
use Rattle.mixed_model.specs.declared.proof.MixedRoot.{MixedRoot}
use Rattle.mixed_model.specs.declared.proof.MixedRoot.TheVariants as root
use Rattle.mixed_model.specs.declared.proof.MixedRoute.{MixedRoute}

-- the labels of each kind are closed in its network, under the proof's weight and prices and
-- without forbidden pairs
abbrev pub AreClosed : List Network → MixedProof → Type 0
AreClosed kinds p =
    (kind : ℕ) → kind < length kinds → IsClosed (network_of kinds kind) (section_of p kind)

-- the listed routes are routes of a fleet, each in the network of its kind, and the basis over them
-- is too wide to go on
pub record IsWideRoot (kinds : List Network) (columns : List MixedRoute)
    (basis : List BasisEntry) : Type 0 where
  pub routes : All (λ r. IsKindRoute kinds 1 (kind_plan r)) columns
  pub wide : IsTooWide (customer_count (first_of kinds)) (mixed_columns kinds columns)
      (mixed_basis kinds columns basis)

-- what the root shows of the prices over the weight: that there is no fractional cover; that they
-- are the least cost of one; or that the numbers of a basis are too wide to go on. They are the
-- same in the section of each kind
abbrev pub RootHolds : List Network → MixedProof → MixedRoot → Type 0
RootHolds kinds p root.None = ShowsNoPlan (section_of p 0)
RootHolds kinds p (root.Exact over shares) =
    IsExactCover kinds p.weight p.prices over (kind_shares shares)
RootHolds kinds p (root.Wide columns basis) = IsWideRoot kinds columns basis

-- each kind's labels are closed, the bound is at most the price sum over the weight, rounded up,
-- and the root holds
pub record IsMixedAccepted (kinds : List Network) (p : MixedProof) : Type 0 where
  pub closed : AreClosed kinds p
  pub bound : IsBoundedBy (section_of p 0) p.bound
  pub root : RootHolds kinds p p.root
