-- The tree that each network has: one leaf at which nothing is earned, so that it shows the bound 0.
use Rattle.std.specs.Prelude.{◌≡◌, ℕ, zero, suc, pos, List, [], ◌∷◌, ◌++◌, Some}
use Rattle.std.specs.List.{All}
use Rattle.customer_sets.specs.SetBelow.{IsSetBelow}
use Rattle.ev_model.specs.Network.{Network, node_count}
use Rattle.near_tree.specs.OneLeaf.{last_at}
use Rattle.near_tree.specs.Preorder.{section_of}
use Rattle.near_tree.specs.Ranges.{LeafSectionFits, TreeFits}
use Rattle.near_tree.specs.Sections.{LeafLabel}
use Rattle.near_tree.specs.Verdicts.{IsVerdict}
use Rattle.near_tree.specs.declared.proof.LeafSection.{LeafSection}
use Rattle.near_tree.specs.declared.proof.SectionLabel.{SectionLabel}
use Rattle.near_tree.specs.declared.proof.TreeNode.TheVariants as node
use Rattle.near_tree.specs.declared.proof.TreeProof.{TreeProof}
use Rattle.near_tree.specs.declared.verdict.TreeVerdict.TheVariants.{Accepted}

-- a full battery at once at a node, with nobody remembered and nothing earned
abbrev pub zero_label : Network → ℕ → LeafLabel
zero_label g x = record {
  last = last_at g x;
  label = record {
    last = 0;
    node = x;
    served = [];
    paid = pos 0;
    first = g.capacity;
    times = 0 ∷ [];
  };
}

-- one at each of so many nodes
abbrev pub zero_labels : Network → ℕ → List LeafLabel
zero_labels g zero = []
zero_labels g (suc n) = zero_labels g n ++ zero_label g n ∷ []

-- for each of so many customers the set of the customer alone
abbrev pub singles : ℕ → List (List ℕ)
singles zero = []
singles (suc n) = singles n ++ (n ∷ []) ∷ []

-- what a set is by its type
abbrev pub HasKeptMemory : SectionLabel → Type 0
HasKeptMemory l = IsSetBelow 448 l.memory

-- the section in its ranges at which no customer earns anything
pub record IsZeroSection (g : Network) (s : LeafSection) : Type 0 where
  pub fits : LeafSectionFits g s
  pub weight : s.weight ≡ 1
  pub prices : All (λ p. p ≡ pos 0) s.prices
  pub entry_prices : s.entry_prices ≡ []
  pub labels : (section_of s).labels ≡ zero_labels g (node_count g)
  pub kept_sets : All (IsSetBelow 448) s.sets
  pub kept_memories : All HasKeptMemory s.labels

-- a tree of that one leaf, which is accepted with the bound 0
pub record IsZeroTree (g : Network) (p : TreeProof) : Type 0 where
  pub leaf : (s : LeafSection) × IsZeroSection g s × (p.nodes ≡ node.Leaf s ∷ [])
  pub bound : p.bound ≡ Some 0
  pub fits : TreeFits g p
  pub accepted : IsVerdict g p Accepted
