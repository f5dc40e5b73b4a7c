use Rattle.tree_text.proofs.BoundLaws.{one_proof}
use Rattle.tree_text.proofs.bounds.laws.bound_texts_mean_one_proof.Goals as goal

pub returns : goal.returns
returns c = one_proof
