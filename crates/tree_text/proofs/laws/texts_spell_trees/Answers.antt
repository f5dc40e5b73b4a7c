use Rattle.tree_text.proofs.TreeLaws.{tree_is_spelled}
use Rattle.tree_text.proofs.laws.texts_spell_trees.Goals as goal

pub returns : goal.returns
returns c = tree_is_spelled
