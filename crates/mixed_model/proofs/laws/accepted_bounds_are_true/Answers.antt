use Rattle.mixed_model.proofs.Truths.{true_bound}
use Rattle.mixed_model.proofs.laws.accepted_bounds_are_true.Goals as goal

pub returns : goal.returns
returns c = true_bound
