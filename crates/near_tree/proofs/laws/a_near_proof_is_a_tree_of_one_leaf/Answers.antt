use Rattle.near_tree.proofs.OneLeaf.{accepted_one_leaf, is_one_leaf}
use Rattle.near_tree.proofs.laws.a_near_proof_is_a_tree_of_one_leaf.Goals as goal

pub returns-clause-tree : goal.returns-clause-tree
returns-clause-tree c = is_one_leaf

pub returns-clause-accepted : goal.returns-clause-accepted
returns-clause-accepted c = accepted_one_leaf
