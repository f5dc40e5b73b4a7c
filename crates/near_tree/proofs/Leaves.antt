-- The bounds of leaves hold in every fraction of a unit, and so does that of an accepted tree.
use Rattle.std.proofs.Common.{ℕ, ◌*◌, ◌≤◌, List, Option, None, Some, arith, inl, inr}
use Rattle.std.proofs.Math.Nat.{mul-le-mul_left}
use Rattle.ev_model.specs.Fleet.{cost_of, IsFleetPlan}
use Rattle.ev_model.specs.Network.{IsNetwork, Network}
use Rattle.ev_model.specs.declared.Stop.{Stop}
use Rattle.near_tree.specs.Bounds.{IsAccepted, IsAcceptedAt}
use Rattle.near_tree.specs.Branches.{apart_at, at_least, at_most, Branch, Keeps, together_at, whole}
use Rattle.near_tree.specs.Sections.{NearSection}
use Rattle.near_tree.specs.Trees.{AtEachLeaf, AtSomeLeaf, entries, IsSectionAt, IsTreeAt, leaf, NearTree, split}
use Rattle.near_proof.specs.Truth.{IsTrueNearBound}
use Rattle.near_tree.proofs.Descent.{to_some_leaf}
use Rattle.near_tree.proofs.Fleets.{whole_bound, whole_none}
use Rattle.near_tree.proofs.Wholes.{has_whole}

pub leaf_bound : (g : Network) (b : Branch) (s : NearSection) (bound k : ℕ) (plans : List (List Stop)) → IsNetwork g → IsSectionAt g b s → IsAcceptedAt g (Some bound) b s → IsFleetPlan g k plans → Keeps g b plans → k * bound ≤ cost_of g k plans
leaf_bound g b s bound k plans network of accepted fleet keeps =
    let has = has_whole g b k plans network fleet keeps in
    let least = whole_bound g b s network of bound has.0 accepted has.1.fleet has.1.keeps in
    let scaled : k * bound ≤ k * cost_of g 1 has.0 = mul-le-mul_left k least in
    omega (arith, scaled, has.1.no_dearer)

pub leaf_none : (g : Network) (b : Branch) (s : NearSection) (k : ℕ) (plans : List (List Stop)) → IsNetwork g → IsSectionAt g b s → IsAcceptedAt g None b s → IsFleetPlan g k plans → Keeps g b plans → ⊥
leaf_none g b s k plans network of accepted fleet keeps =
    let has = has_whole g b k plans network fleet keeps in
    whole_none g b s network of has.0 accepted has.1.fleet has.1.keeps

-- a leaf that is as it should be, is accepted, and takes a fleet plan in
record Meets (g : Network) (bound : Option ℕ) (plans : List (List Stop)) : Type 0 where
  branch : Branch
  section : NearSection
  of : IsSectionAt g branch section
  accepted : IsAcceptedAt g bound branch section
  keeps : Keeps g branch plans

meets : (g : Network) (bound : Option ℕ) (plans : List (List Stop)) (b : Branch) (t : NearTree) → IsTreeAt g b t → AtEachLeaf (IsAcceptedAt g bound) b t → AtSomeLeaf (λ c s. Keeps g c plans) b t → Meets g bound plans
meets g bound plans b (leaf s) is accepted keeps = record { branch = b; section = s; of = is; accepted = accepted; keeps = keeps }
meets g bound plans b (split i j apart together) is accepted keeps = elim keeps [
  | inl first ↦ meets g bound plans (apart_at i j b) apart is.1 accepted.0 first
  | inr second ↦ meets g bound plans (together_at i j b) together is.2 accepted.1 second
]
meets g bound plans b (entries n set few many) is accepted keeps = elim keeps [
  | inl first ↦ meets g bound plans (at_most n set b) few is.1 accepted.0 first
  | inr second ↦ meets g bound plans (at_least n set b) many is.2 accepted.1 second
]

pub tree_bound : (g : Network) (t : NearTree) (bound : Option ℕ) → IsNetwork g → IsTreeAt g whole t → IsAccepted g bound t → IsTrueNearBound g bound
tree_bound g t None network is accepted = λ k plans fleet.
    let m = meets g None plans whole t is accepted (to_some_leaf g t k plans is fleet) in
    leaf_none g m.branch m.section k plans network m.of m.accepted fleet m.keeps
tree_bound g t (Some bound) network is accepted = λ k plans fleet.
    let m = meets g (Some bound) plans whole t is accepted (to_some_leaf g t k plans is fleet) in
    leaf_bound g m.branch m.section bound k plans network m.of m.accepted fleet m.keeps
