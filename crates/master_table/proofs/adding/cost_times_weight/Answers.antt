use Rattle.std.proofs.Common.{arith}
use Rattle.std.proofs.lemmas.Grind.{common_steps}
use Rattle.master_table.proofs.adding.cost_times_weight.Goals as goal

pub overflow_mul-result : goal.overflow_mul-result
overflow_mul-result = grind (arith, common_steps)

pub returns-clause-small : goal.returns-clause-small
returns-clause-small = grind (arith, common_steps)

pub returns-clause-value : goal.returns-clause-value
returns-clause-value = grind (arith, common_steps)
