use Rattle.std.proofs.Common.{arith}
use Rattle.std.proofs.lemmas.Grind.{common_steps}
use Rattle.bound_certificate.proofs.listed.entries_of.Goals as goal

pub returns : goal.returns
returns = grind (arith, common_steps)

pub loop-number-preserved : goal.loop-number-preserved
loop-number-preserved = grind (arith, common_steps)
