use Rattle.std.proofs.Common.{arith}
use Rattle.std.proofs.lemmas.Grind.{common_steps}
use Rattle.decimal_import.proofs.nesting.Nesting.is_empty.Goals as goal

pub returns : goal.returns
returns = grind (arith, common_steps)
