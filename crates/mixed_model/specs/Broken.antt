-- The rules of a proof for several kinds of vehicles one by one, and which of them is the first
-- that is broken.
use Rattle.std.specs.Prelude.{◌≡◌, ◌⊎◌, ℕ, ◌<◌, List, length}
use Rattle.ev_model.specs.Network.{Network}
use Rattle.fleet_model.specs.ClosedListRules.{ClosedFault, ComesBefore as ComesBeforeInKind, IsFault}
use Rattle.fleet_model.specs.Tree.{IsBoundedBy}
use Rattle.mixed_model.specs.Accepted.{RootHolds}
use Rattle.mixed_model.specs.Kinds.{network_of}
use Rattle.mixed_model.specs.Meaning.{section_of}
use Rattle.mixed_model.specs.declared.proof.MixedProof.{MixedProof}

-- where a rule is broken: in the labels of a kind, where they aren't closed; at the bound; or at
-- the root
pub data Place : Type 0 where
  in_kind : ℕ → ClosedFault → Place
  at_bound : Place
  at_root : Place

-- a rule is broken there
abbrev pub IsBroken : List Network → MixedProof → Place → Type 0
IsBroken kinds p (in_kind kind fault) =
    (kind < length kinds) × IsFault (network_of kinds kind) (section_of p kind) fault
IsBroken kinds p at_bound = IsBoundedBy (section_of p 0) p.bound → ⊥
IsBroken kinds p at_root = RootHolds kinds p p.root → ⊥

-- kinds come first, by their order and in each as the rules of its labels come; then the bound, and
-- then the root
abbrev pub ComesBefore : Place → Place → Type 0
ComesBefore (in_kind m f) (in_kind n h) = (m < n) ⊎ ((m ≡ n) × ComesBeforeInKind f h)
ComesBefore (in_kind m f) at_bound = Unit {0}
ComesBefore (in_kind m f) at_root = Unit {0}
ComesBefore at_bound (in_kind n h) = ⊥
ComesBefore at_bound at_bound = ⊥
ComesBefore at_bound at_root = Unit {0}
ComesBefore at_root place = ⊥

-- the first broken rule
pub record IsFirstBroken (kinds : List Network) (p : MixedProof) (at : Place) : Type 0 where
  pub broken : IsBroken kinds p at
  pub first : (other : Place) → ComesBefore other at → IsBroken kinds p other → ⊥
