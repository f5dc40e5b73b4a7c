-- Trees whose nodes stand one behind another, and their leaves.
use Rattle.std.specs.Prelude.{◌≡◌, ℕ, List, [], ◌∷◌, ◌++◌, Option, None, Some, length, slice_get, ◌<◌}
use Rattle.std.specs.List.{All}
use Rattle.ev_model.specs.Network.{Network}
use Rattle.near_tree.specs.Branches.{apart_at, at_least, at_most, Branch, together_at, whole}
use Rattle.near_tree.specs.Preorder.{at_entries, at_leaf, at_split, Node}
use Rattle.near_tree.specs.Ranges.{CountsFew}
use Rattle.near_tree.specs.Rules.{Leaf, leaves_of}
use Rattle.near_tree.specs.Trees.{IsCount, IsSectionAt, IsSplit, NearTree}
use Rattle.near_tree.specs.Verdicts.{IsLeafBounded, IsLeafClosed}

-- the nodes are those of trees below these branches, which are as they should be
abbrev pub AreTreesAt : Network → List Branch → List Node → Type 0
AreTreesAt g [] nodes = Unit {0}
AreTreesAt g (b ∷ bs) [] = ⊥
AreTreesAt g (b ∷ bs) (at_leaf s ∷ nodes) =
    IsSectionAt g b s × CountsFew b s × AreTreesAt g bs nodes
AreTreesAt g (b ∷ bs) (at_split i j ∷ nodes) =
    IsSplit g i j × AreTreesAt g (apart_at i j b ∷ together_at i j b ∷ bs) nodes
AreTreesAt g (b ∷ bs) (at_entries k set ∷ nodes) =
    IsCount g b k set × AreTreesAt g (at_most k set b ∷ at_least k set b ∷ bs) nodes

-- their leaves
abbrev pub leaves_along : List Branch → List Node → List Leaf
leaves_along [] nodes = []
leaves_along (b ∷ bs) [] = []
leaves_along (b ∷ bs) (at_leaf s ∷ nodes) =
    record { branch = b; section = s } ∷ leaves_along bs nodes
leaves_along (b ∷ bs) (at_split i j ∷ nodes) =
    leaves_along (apart_at i j b ∷ together_at i j b ∷ bs) nodes
leaves_along (b ∷ bs) (at_entries k set ∷ nodes) =
    leaves_along (at_most k set b ∷ at_least k set b ∷ bs) nodes

-- each of the leaves is bounded, or that is the first that isn't
abbrev pub TellsUnbounded : Option ℕ → List Leaf → Option ℕ → Type 0
TellsUnbounded bound fs None = All (IsLeafBounded bound) fs
TellsUnbounded bound fs (Some m) =
    (f : Leaf) × (slice_get fs m ≡ Some f) × (IsLeafBounded bound f → ⊥)
    × ((n : ℕ) (h : Leaf) → n < m → slice_get fs n ≡ Some h → IsLeafBounded bound h)

-- so many leaves were passed, whose labels are all closed
pub record IsWalkedTo (g : Network) (bound : Option ℕ) (t : NearTree) (trees : List Branch)
    (left : List Node) (leaf : ℕ) (unbounded : Option ℕ) : Type 0 where
  pub trees_are : AreTreesAt g trees left
  pub passed : List Leaf
  pub count : length passed ≡ leaf
  pub all : leaves_of whole t ≡ passed ++ leaves_along trees left
  pub closed : All (IsLeafClosed g) passed
  pub bounded : TellsUnbounded bound passed unbounded
