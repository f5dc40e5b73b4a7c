use Rattle.std.proofs.Common.{arith}
use Rattle.std.proofs.lemmas.Grind.{common_steps}
use Rattle.certificate_check.proofs.bound.is_bounded.Goals as goal

pub returns-in-None-default : goal.returns-in-None-default
returns-in-None-default = grind (arith, common_steps)

pub returns-in-Some-None : goal.returns-in-Some-None
returns-in-Some-None = grind (arith, common_steps)
