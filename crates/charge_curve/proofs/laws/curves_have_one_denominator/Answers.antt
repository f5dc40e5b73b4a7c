use Rattle.charge_curve.proofs.Curves.{common_exists, same_common}
use Rattle.charge_curve.proofs.laws.curves_have_one_denominator.Goals as goal

pub returns-clause-some : goal.returns-clause-some
returns-clause-some c = common_exists

pub returns-clause-one : goal.returns-clause-one
returns-clause-one c = same_common
