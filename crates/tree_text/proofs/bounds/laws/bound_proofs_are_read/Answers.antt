use Rattle.tree_text.proofs.BoundLaws.{proof_is_read}
use Rattle.tree_text.proofs.bounds.laws.bound_proofs_are_read.Goals as goal

pub returns : goal.returns
returns c = proof_is_read
