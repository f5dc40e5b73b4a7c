use Rattle.customer_sets.specs.Pairs.{any_pair}
use Rattle.branching.specs.SearchTree.{sections_named}
use Rattle.branching.proofs.Plans.{is_branch, named_branch}
use Rattle.branching.proofs.laws.a_tree_of_nodes_is_a_branching_tree.Goals as goal

pub returns-clause-tree : goal.returns-clause-tree
returns-clause-tree c = λ g t is all.
    named_branch g t.nodes t.tree (is_branch g t.customers t.nodes any_pair t.tree all is.under)

pub returns-clause-leaf : goal.returns-clause-leaf
returns-clause-leaf c = λ g t k plans is all fleet.
    c.a_fleet_keeps_some_leaf.ensures g (sections_named t.nodes t.tree) k plans
    (named_branch g t.nodes t.tree (is_branch g t.customers t.nodes any_pair t.tree all is.under)) fleet
