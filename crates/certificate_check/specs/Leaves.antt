-- The leaves of a branching tree.
use Rattle.std.specs.Prelude.{◌≡◌, ℕ, Bool, List, [], ◌∷◌, ◌++◌, Some, slice_get}
use Rattle.customer_sets.specs.Pairs.{any_pair, forbid, require}
use Rattle.fleet_model.specs.Tree.{BranchTree, leaf, split}
use Rattle.bound_certificate.specs.Meaning.{IsTreeOf}
use Rattle.bound_certificate.specs.declared.certificate.Certificate.{Certificate}

-- a leaf: the number of the section that it names, and which pairs of places are allowed there
pub record TreeLeaf : Type 0 where
  pub section : ℕ
  pub allows : ℕ → ℕ → Bool

-- the leaves of a tree in preorder, where `allows` tells the pairs that are allowed at its root
abbrev pub leaves_of : (ℕ → ℕ → Bool) → BranchTree → List TreeLeaf
leaves_of allows (leaf n) = record { section = n; allows = allows } ∷ []
leaves_of allows (split i j apart together) =
    leaves_of (forbid i j allows) apart ++ leaves_of (require i j allows) together

-- the leaf of a certificate's tree with a number; at the root of the tree each pair is allowed
abbrev pub IsLeafAt : Certificate → ℕ → TreeLeaf → Type 0
IsLeafAt c number l =
    (tree : BranchTree) × IsTreeOf c.tree tree ×
    (slice_get (leaves_of any_pair tree) number ≡ Some l)
