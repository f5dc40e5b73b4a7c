use Rattle.near_proof.proofs.Truths.{true_bound}
use Rattle.near_proof.proofs.laws.accepted_bounds_are_true.Goals as goal

pub returns : goal.returns
returns c = true_bound
