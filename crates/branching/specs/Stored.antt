-- What a `Tree` is, by its fields.
use Rattle.std.specs.Prelude.{◌≡◌}
use Rattle.branching.specs.SearchTree.{IsSearchTree, SearchTree}
use Rattle.branching.specs.Shape.{key_lines, tree_of}
use Rattle.branching.specs.declared.tree.Tree.TheInside.{Inside}

-- the nodes by key, and the tree that the lines of the shape are of
abbrev pub search_tree_of : Inside → SearchTree
search_tree_of t = record {
  customers = t.customers;
  nodes = t.nodes.slots;
  tree = tree_of t.shape.items;
}

-- the lines are those of one tree, and each node is that of one leaf
pub record IsStored (t : Inside) : Type 0 where
  pub whole : t.shape.items ≡ key_lines (tree_of t.shape.items)
  pub sound : IsSearchTree (search_tree_of t)
