-- A tree as the list of its nodes: each stands before its two trees, the first before the second.
use Rattle.std.specs.Prelude.{◌≡◌, ℕ, ◌+◌, List, [], ◌∷◌, ◌++◌, map}
use Rattle.piece_fn.specs.PieceFn.{level_times}
use Rattle.near_tree.specs.Sections.{after, anybody, Last, LeafLabel, NearSection}
use Rattle.near_tree.specs.Trees.{entries, leaf, NearTree, split}
use Rattle.near_tree.specs.declared.proof.LastServed.{LastServed}
use Rattle.near_tree.specs.declared.proof.LastServed.TheVariants.{Anybody, Customer, Nobody}
use Rattle.near_tree.specs.declared.proof.LeafSection.{LeafSection}
use Rattle.near_tree.specs.declared.proof.SectionLabel.{SectionLabel}
use Rattle.near_tree.specs.declared.proof.TreeNode.{TreeNode}
use Rattle.near_tree.specs.declared.proof.TreeNode.TheVariants as node

-- a node without the trees below it: a leaf, a split on two places, or a count of entries
pub data Node : Type 0 where
  at_leaf : NearSection → Node
  at_split : ℕ → ℕ → Node
  at_entries : ℕ → List ℕ → Node

-- the nodes of a tree in preorder
abbrev pub nodes_of : NearTree → List Node
nodes_of (leaf s) = at_leaf s ∷ []
nodes_of (split i j apart together) = at_split i j ∷ (nodes_of apart ++ nodes_of together)
nodes_of (entries k set few many) = at_entries k set ∷ (nodes_of few ++ nodes_of many)

-- the place of a customer is one more than the number; that of the depot, of nobody yet, is 0
abbrev pub last_of : LastServed → Last
last_of Nobody = after 0
last_of (Customer c) = after (c + 1)
last_of Anybody = anybody

-- a label with a time at each level
abbrev pub leaf_label : SectionLabel → LeafLabel
leaf_label l = record {
  last = last_of l.last;
  label = record {
    last = 0;
    node = l.node;
    served = l.memory;
    paid = l.earned;
    first = (level_times l.value).first;
    times = (level_times l.value).times;
  };
}

abbrev pub section_of : LeafSection → NearSection
section_of s = record {
  weight = s.weight;
  prices = s.prices;
  sets = s.sets;
  entry_prices = s.entry_prices;
  labels = map leaf_label s.labels;
}

abbrev pub node_of : TreeNode → Node
node_of (node.Split i j) = at_split (i + 1) (j + 1)
node_of (node.Entries most set) = at_entries most set
node_of (node.Leaf s) = at_leaf (section_of s)

-- the nodes are those of the tree
abbrev pub IsTreeOf : List TreeNode → NearTree → Type 0
IsTreeOf nodes t = map node_of nodes ≡ nodes_of t
