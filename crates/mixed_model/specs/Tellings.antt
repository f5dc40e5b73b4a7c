-- What the judge of proofs for several kinds of vehicles is told, rule by rule.
use Rattle.std.specs.Prelude.{◌≡◌, ◌≢◌, ℕ, ◌<◌, Bool, true, false, List, length, Option, None, Some}
use Rattle.std.specs.List.{All, AllZip}
use Rattle.ev_model.specs.Network.{IsNetwork, Network}
use Rattle.fleet_model.specs.ClosedList.{IsClosed}
use Rattle.fleet_model.specs.Places.{customer_count}
use Rattle.certificate_check.specs.Routes.{IsListedRoute, IsRouteAmong}
use Rattle.certificate_check.specs.declared.cover.SharedRoute.{SharedRoute}
use Rattle.certificate_parts.specs.declared.entry.BasisEntry.{BasisEntry}
use Rattle.closed_lists.specs.declared.fault.ClosedFault.{ClosedFault}
use Rattle.closed_lists.specs.declared.fault.ClosedFault.TheVariants as fault
use Rattle.master_table.specs.declared.listed.ListedRoute.{ListedRoute}
use Rattle.mixed_model.specs.Accepted.{AreClosed, IsWideRoot, RootHolds}
use Rattle.mixed_model.specs.Covers.{IsExactCover, IsKindRoute}
use Rattle.mixed_model.specs.Kinds.{first_of, network_of}
use Rattle.mixed_model.specs.Meaning.{kind_plan, kind_shares, section_of}
use Rattle.mixed_model.specs.Verdicts.{IsVerdict}
use Rattle.mixed_model.specs.declared.proof.MixedProof.{MixedProof}
use Rattle.mixed_model.specs.declared.proof.MixedRoot.{MixedRoot}
use Rattle.mixed_model.specs.declared.proof.MixedRoute.{MixedRoute}
use Rattle.mixed_model.specs.declared.proof.MixedShare.{MixedShare}
use Rattle.mixed_model.specs.declared.verdict.MixedVerdict.{MixedVerdict}
use Rattle.mixed_model.specs.declared.verdict.MixedVerdict.TheVariants.{Accepted, End, Start, Step}

-- ---- the kinds

-- the verdict that a fault of the labels of a kind is told as
abbrev pub ToldAs : ℕ → ClosedFault → MixedVerdict → Type 0
ToldAs kind fault.Start v = v ≡ Start kind
ToldAs kind (fault.Step label node) v = v ≡ Step kind label node
ToldAs kind (fault.End label) v = v ≡ End kind label
ToldAs kind fault.Memory v = ⊥

-- the labels of the kinds before one are closed
abbrev pub AreClosedBefore : List Network → MixedProof → ℕ → Type 0
AreClosedBefore kinds p kind =
    (other : ℕ) → other < kind → IsClosed (network_of kinds other) (section_of p other)

-- the labels of a kind are closed, or the verdict tells their first broken rule: it is that on the
-- whole proof where those of all kinds before are closed
abbrev pub TellsKind : List Network → MixedProof → ℕ → Option MixedVerdict → Type 0
TellsKind kinds p kind None = IsClosed (network_of kinds kind) (section_of p kind)
TellsKind kinds p kind (Some v) =
    (v ≢ Accepted) × (AreClosedBefore kinds p kind → IsVerdict kinds p v)

-- the labels of all kinds are closed in their networks, or the verdict tells the first broken rule
abbrev pub TellsKinds : List Network → MixedProof → Option MixedVerdict → Type 0
TellsKinds kinds p None = All IsNetwork kinds × AreClosed kinds p
TellsKinds kinds p (Some v) = (v ≢ Accepted) × IsVerdict kinds p v

-- ---- the root

-- a route of a kind as a listed route
pub record IsListedIn (kinds : List Network) (r : MixedRoute) (listed : ListedRoute) : Type 0 where
  pub known : r.kind < length kinds
  pub route : IsListedRoute (network_of kinds r.kind) r.plan.stops listed
  pub among : IsRouteAmong (customer_count (first_of kinds)) listed

-- a share with its route as a listed route
pub record IsSharedIn (kinds : List Network) (x : MixedShare) (shared : SharedRoute) : Type 0 where
  pub share : shared.share ≡ x.share
  pub listed : IsListedIn kinds x.route shared.route

-- the shares are told as listed routes, or one of their plans is no route of a fleet for its kind
abbrev pub TellsShares : List Network → List MixedShare → Option (List SharedRoute) → Type 0
TellsShares kinds shares None = All (λ x. IsKindRoute kinds 1 (kind_plan x.route)) shares → ⊥
TellsShares kinds shares (Some routes) = AllZip (IsSharedIn kinds) shares routes

-- the columns are told as listed routes, or one of them is no route of a fleet for its kind
abbrev pub TellsColumns : List Network → List MixedRoute → Option (List ListedRoute) → Type 0
TellsColumns kinds columns None = All (λ r. IsKindRoute kinds 1 (kind_plan r)) columns → ⊥
TellsColumns kinds columns (Some routes) = AllZip (IsListedIn kinds) columns routes

abbrev pub TellsExact : List Network → MixedProof → ℕ → List MixedShare → Bool → Type 0
TellsExact kinds p over shares true =
    IsExactCover kinds p.weight p.prices over (kind_shares shares)
TellsExact kinds p over shares false =
    IsExactCover kinds p.weight p.prices over (kind_shares shares) → ⊥

abbrev pub TellsWide : List Network → List MixedRoute → List BasisEntry → Bool → Type 0
TellsWide kinds columns basis true = IsWideRoot kinds columns basis
TellsWide kinds columns basis false = IsWideRoot kinds columns basis → ⊥

abbrev pub TellsRoot : List Network → MixedProof → MixedRoot → Bool → Type 0
TellsRoot kinds p r true = RootHolds kinds p r
TellsRoot kinds p r false = RootHolds kinds p r → ⊥
