use Rattle.tree_text.proofs.TreeLaws.{one_tree}
use Rattle.tree_text.proofs.laws.texts_mean_one_tree.Goals as goal

pub returns : goal.returns
returns c = one_tree
