use Rattle.rounding_law.proofs.Whole.{no_fraction_is_faster}
use Rattle.rounding_law.proofs.laws.no_fraction_is_faster.Goals as goal

pub returns : goal.returns
returns c = no_fraction_is_faster
