use Rattle.mixed_model.proofs.Truths.{true_proof}
use Rattle.mixed_model.proofs.laws.accepted_roots_are_true.Goals as goal

pub returns : goal.returns
returns c = true_proof
