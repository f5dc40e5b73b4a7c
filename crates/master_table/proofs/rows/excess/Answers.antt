use Rattle.std.proofs.Common.{arith}
use Rattle.std.proofs.lemmas.Grind.{common_steps}
use Rattle.master_table.proofs.rows.excess.Goals as goal

pub returns-then-col-n-clause-value : goal.returns-then-col-n-clause-value
returns-then-col-n-clause-value = grind (arith, common_steps)

pub overflow_sub-result : goal.overflow_sub-result
overflow_sub-result = grind (arith, common_steps)

pub returns-then-col-n-clause-small : goal.returns-then-col-n-clause-small
returns-then-col-n-clause-small = grind (arith, common_steps)
