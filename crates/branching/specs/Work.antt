-- What is left of a search at most: it ends, since a split forbids a further pair in both of its
-- children.
use Rattle.std.specs.Prelude.{ℕ, ◌^◌, cond, List, Option, Some, None}
use Rattle.std.specs.Int.{sum_through}
use Rattle.std.specs.List.{sum_by}
use Rattle.customer_sets.specs.Pairs.{ForbiddenPairs, allows_of}
use Rattle.branching.specs.Nodes.{lives}
use Rattle.branching.specs.declared.node.Node.{Node}

-- how many pairs of places are allowed
unfoldable pub allowed_pairs : ForbiddenPairs → ℕ
allowed_pairs p =
    sum_through (λ a. sum_through (λ b. cond (allows_of p a b) 1 0) p.customers) p.customers

-- a closed node leaves nothing to be done
unfoldable pub node_work : Node → ℕ
node_work node = cond (lives node.state) (3 ^ allowed_pairs node.pairs) 0

-- nothing is left at a key that no node has
abbrev pub work_at : Option Node → ℕ
work_at None = 0
work_at (Some node) = node_work node

-- it falls where a node is split or closed, and stays where one is taken
unfoldable pub work_left : List (Option Node) → ℕ
work_left nodes = sum_by work_at nodes
