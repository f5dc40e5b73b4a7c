use Rattle.tree_text.proofs.TreeLaws.{text_is_read}
use Rattle.tree_text.proofs.laws.written_trees_are_read.Goals as goal

pub returns : goal.returns
returns c = text_is_read
