use Rattle.certificate_check.proofs.Truths.{true_bound}
use Rattle.certificate_check.proofs.laws.accepted_bounds_are_true.Goals as goal

pub returns : goal.returns
returns c = true_bound
