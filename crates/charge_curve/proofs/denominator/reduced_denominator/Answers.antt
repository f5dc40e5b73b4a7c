use Rattle.charge_curve.proofs.Denominators.{reduced_is}
use Rattle.charge_curve.proofs.denominator.reduced_denominator.Goals as goal

pub returns-clause-positive : goal.returns-clause-positive
returns-clause-positive c = (reduced_is c.args.from c.args.to c.gcd.result c.requires.higher c.gcd.ensures.greatest).0

pub returns-clause-exact : goal.returns-clause-exact
returns-clause-exact c = (reduced_is c.args.from c.args.to c.gcd.result c.requires.higher c.gcd.ensures.greatest).1
