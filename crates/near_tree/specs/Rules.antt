-- The rules of a tree one by one, and which of them is the first that is broken.
use Rattle.std.specs.Prelude.{◌≡◌, ℕ, ◌*◌, ◌<◌, ◌⊎◌, List, [], ◌∷◌, ◌++◌, Option, Some, slice_get, pos, ◌<ℤ◌}
use Rattle.ev_model.specs.Network.{Network}
use Rattle.fleet_model.specs.Labels.{IsLevel}
use Rattle.fleet_model.specs.Steps.{time_at}
use Rattle.near_tree.specs.Bounds.{IsBounded}
use Rattle.near_tree.specs.Branches.{apart_at, at_least, at_most, Branch, together_at, whole}
use Rattle.near_tree.specs.Covered.{IsLeafCovered}
use Rattle.near_tree.specs.Sections.{LeafLabel, LeafState, NearSection}
use Rattle.near_tree.specs.Steps.{at_leaf_customer, at_leaf_station, IsLeafCustomerStep, IsLeafHomeStep, IsLeafStationStep, leaf_at, leaf_start}
use Rattle.near_tree.specs.Trees.{entries, leaf, NearTree, split}

-- a leaf: its section, and what the way down to it says
pub record Leaf : Type 0 where
  pub branch : Branch
  pub section : NearSection

-- the leaves of a tree in their order, the first tree of a split or a count before the second
abbrev pub leaves_of : Branch → NearTree → List Leaf
leaves_of b (leaf s) = record { branch = b; section = s } ∷ []
leaves_of b (split i j apart together) =
    leaves_of (apart_at i j b) apart ++ leaves_of (together_at i j b) together
leaves_of b (entries k set few many) =
    leaves_of (at_most k set b) few ++ leaves_of (at_least k set b) many

-- where a rule is broken, by the number of the leaf: at the start, at the step of a label to a
-- node, at the step of a label home, or at the bound. Leaves, and the labels of each, are counted
-- from 0
pub data Place : Type 0 where
  at_start : ℕ → Place
  at_step : ℕ → ℕ → ℕ → Place
  at_home : ℕ → ℕ → Place
  at_bound : ℕ → Place

-- no label of the leaf covers the state
abbrev pub MissesState : Network → Leaf → LeafState → Type 0
MissesState g f a = IsLeafCovered g f.branch f.section a → ⊥

-- some state that the step to a customer or a station reaches from some level of the label is
-- covered by no label of the leaf
abbrev pub MissesStep : Network → Leaf → LeafLabel → ℕ → Type 0
MissesStep g f l x =
    (y : ℕ) × (IsLevel l.label y) × (
    (IsLeafCustomerStep g f.branch (leaf_at l y) x
    × MissesState g f (at_leaf_customer g f.branch f.section (leaf_at l y) x))
    ⊎ ((z : ℕ) × IsLeafStationStep g (leaf_at l y) x z
    × MissesState g f (at_leaf_station g (leaf_at l y) x z))
    )

-- some step home takes, times the weight, less than the label has earned
abbrev pub EarnsHome : Network → Leaf → LeafLabel → Type 0
EarnsHome g f l =
    (y : ℕ) × (IsLevel l.label y) × IsLeafHomeStep g f.branch (leaf_at l y)
    × (pos (f.section.weight * time_at g (leaf_at l y).state 0) <ℤ l.label.paid)

-- something holds at the leaf with a number, or of one of its labels
abbrev pub AtLeaf : NearTree → ℕ → (Leaf → Type 0) → Type 0
AtLeaf t n P = (f : Leaf) × (slice_get (leaves_of whole t) n ≡ Some f) × P f

abbrev pub AtLabel : ℕ → (LeafLabel → Type 0) → Leaf → Type 0
AtLabel k P f = (l : LeafLabel) × (slice_get f.section.labels k ≡ Some l) × P l

-- a rule is broken there
abbrev pub IsBroken : Network → Option ℕ → NearTree → Place → Type 0
IsBroken g bound t (at_start n) =
    AtLeaf t n (λ f. MissesState g f (leaf_start g))
IsBroken g bound t (at_step n k x) = AtLeaf t n (λ f. AtLabel k (λ l. MissesStep g f l x) f)
IsBroken g bound t (at_home n k) = AtLeaf t n (λ f. AtLabel k (λ l. EarnsHome g f l) f)
IsBroken g bound t (at_bound n) = AtLeaf t n (λ f. IsBounded bound f.branch f.section → ⊥)

-- the bounds come last
abbrev pub part : Place → ℕ
part (at_start n) = 1
part (at_step n k x) = 1
part (at_home n k) = 1
part (at_bound n) = 2

abbrev pub leaf_number : Place → ℕ
leaf_number (at_start n) = n
leaf_number (at_step n k x) = n
leaf_number (at_home n k) = n
leaf_number (at_bound n) = n

-- of one leaf the start comes first, then steps by label and then by node, then steps home by label
abbrev pub IsSooner : Place → Place → Type 0
IsSooner (at_start m) (at_step n k y) = Unit {0}
IsSooner (at_start m) (at_home n k) = Unit {0}
IsSooner (at_step m j x) (at_step n k y) = (j < k) ⊎ ((j ≡ k) × (x < y))
IsSooner (at_step m j x) (at_home n k) = Unit {0}
IsSooner (at_home m j) (at_home n k) = j < k
IsSooner a b = ⊥

abbrev pub ComesBefore : Place → Place → Type 0
ComesBefore a b =
    (part a < part b) ⊎ ((part a ≡ part b)
    × ((leaf_number a < leaf_number b) ⊎ ((leaf_number a ≡ leaf_number b) × IsSooner a b)))

-- the first broken rule
pub record IsFirstBroken (g : Network) (bound : Option ℕ) (t : NearTree) (at : Place) : Type 0 where
  pub broken : IsBroken g bound t at
  pub first : (other : Place) → ComesBefore other at → IsBroken g bound t other → ⊥
