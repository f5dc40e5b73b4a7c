use Rattle.std.proofs.Common.{arith}
use Rattle.std.proofs.lemmas.Grind.{common_steps}
use Rattle.master_table.proofs.over.right_size.Goals as goal

pub returns-clause-value : goal.returns-clause-value
returns-clause-value = grind (arith, common_steps)

pub returns-clause-small : goal.returns-clause-small
returns-clause-small = grind (arith, common_steps)
