use Rattle.std.proofs.Common.{arith}
use Rattle.std.proofs.lemmas.Grind.{common_steps}
use Rattle.certificate_check.proofs.rounding.rounded_up.Goals as goal

pub returns-clause-rounded : goal.returns-clause-rounded
returns-clause-rounded = grind (arith, common_steps)
