-- The shape of a tree as lines in preorder.
use Rattle.std.specs.Prelude.{ℕ, ◌+◌, cond, nat_eq, List, [], ◌∷◌, ◌++◌, Option, IsSome}
use Rattle.fleet_model.specs.Tree.{BranchTree, leaf, split}
use Rattle.bound_certificate.specs.declared.certificate.TreeLine.{TreeLine}
use Rattle.bound_certificate.specs.declared.certificate.TreeLine.TheVariants.{Split as SplitLine, Leaf as LeafLine}
use Rattle.branching.specs.Nodes.{node_at}
use Rattle.branching.specs.SearchTree.{section_in}
use Rattle.branching.specs.declared.node.Node.{Node}
use Rattle.branching.specs.declared.shape.Line.{Line}
use Rattle.branching.specs.declared.shape.Line.TheVariants.{Split, Leaf}

-- behind a split stand the lines of the tree where the second place may not follow the first, and
-- then those of the tree where it has to
abbrev pub key_lines : BranchTree → List Line
key_lines (leaf key) = Leaf key ∷ []
key_lines (split i j apart together) = Split i j ∷ (key_lines apart ++ key_lines together)

-- a split in front of the trees of the lines behind it
abbrev pub joined : ℕ → ℕ → List BranchTree → List BranchTree
joined i j [] = []
joined i j (t ∷ []) = t ∷ []
joined i j (t ∷ u ∷ ts) = split i j t u ∷ ts

-- the trees that the lines are of, one after another
abbrev pub trees_of : List Line → List BranchTree
trees_of [] = []
trees_of (Leaf key ∷ lines) = leaf key ∷ trees_of lines
trees_of (Split i j ∷ lines) = joined i j (trees_of lines)

abbrev pub first_tree : List BranchTree → BranchTree
first_tree [] = leaf 0
first_tree (t ∷ ts) = t

-- the tree that the lines are of
abbrev pub tree_of : List Line → BranchTree
tree_of lines = first_tree (trees_of lines)

-- how many lines are leaves with the key
abbrev pub stands : ℕ → List Line → ℕ
stands key [] = 0
stands key (Leaf k ∷ lines) = cond (nat_eq k key) 1 0 + stands key lines
stands key (Split i j ∷ lines) = stands key lines

-- a leaf names a node
abbrev pub NamesNode : List (Option Node) → Line → Type 0
NamesNode nodes (Leaf key) = IsSome (node_at nodes key)
NamesNode nodes (Split i j) = Unit {0}

-- the line of a certificate
abbrev pub named_line : List (Option Node) → Line → TreeLine
named_line nodes (Leaf key) = LeafLine (section_in (node_at nodes key))
named_line nodes (Split i j) = SplitLine i j

-- what becomes of a line where a split takes the place of the leaf with the key
abbrev pub split_line : ℕ → ℕ → ℕ → ℕ → Line → List Line
split_line key i j other (Leaf k) =
    cond (nat_eq k key) (Split i j ∷ Leaf key ∷ Leaf other ∷ []) (Leaf k ∷ [])
split_line key i j other (Split a b) = Split a b ∷ []
