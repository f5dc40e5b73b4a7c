use Rattle.near_tree.proofs.Preorder.{one_tree}
use Rattle.near_tree.proofs.laws.a_list_of_nodes_is_one_tree.Goals as goal

pub returns : goal.returns
returns c = one_tree
