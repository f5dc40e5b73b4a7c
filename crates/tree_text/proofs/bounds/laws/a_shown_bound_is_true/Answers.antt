use Rattle.tree_text.proofs.BoundLaws.{shown_bound}
use Rattle.tree_text.proofs.bounds.laws.a_shown_bound_is_true.Goals as goal

pub returns : goal.returns
returns c = shown_bound
