use Rattle.near_tree.proofs.OneVerdict.{one_verdict}
use Rattle.near_tree.proofs.laws.a_tree_has_one_verdict.Goals as goal

pub returns : goal.returns
returns c = one_verdict
