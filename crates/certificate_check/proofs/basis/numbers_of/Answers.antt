use Rattle.std.proofs.Common.{arith}
use Rattle.std.proofs.lemmas.Grind.{common_steps}
use Rattle.certificate_check.proofs.basis.numbers_of.Goals as goal

pub returns : goal.returns
returns = grind (arith, common_steps)

pub loop-entry-preserved : goal.loop-entry-preserved
loop-entry-preserved = grind (arith, common_steps)

pub number_of-requires-clause-entry : goal.number_of-requires-clause-entry
number_of-requires-clause-entry = grind (arith, common_steps)
