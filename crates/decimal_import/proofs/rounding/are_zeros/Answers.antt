use Rattle.std.proofs.Common.{arith}
use Rattle.decimal_import.proofs.Numbers.{number_of_noughts}
use Rattle.std.proofs.lemmas.Grind.{common_steps}
use Rattle.decimal_import.proofs.rounding.are_zeros.Goals as goal

pub returns : goal.returns
returns = grind (arith, common_steps)

pub loop-digit-preserved : goal.loop-digit-preserved
loop-digit-preserved = grind (arith, common_steps)
