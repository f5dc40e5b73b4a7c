use Rattle.charge_curve.proofs.Curves.{is_denominator}
use Rattle.charge_curve.proofs.laws.denominator_is_that_of_the_breakpoints.Goals as goal

pub returns : goal.returns
returns c = is_denominator
