use Rattle.std.proofs.Common.{arith}
use Rattle.std.proofs.lemmas.Grind.{common_steps}
use Rattle.decimal_import.proofs.conversion.UnitDigits.push.Goals as goal

pub whole_number-requires-clause-fraction : goal.whole_number-requires-clause-fraction
whole_number-requires-clause-fraction = grind (arith, common_steps)
