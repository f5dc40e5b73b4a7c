use Rattle.std.proofs.Common.{arith}
use Rattle.std.proofs.lemmas.Grind.{common_steps}
use Rattle.level_table.proofs.solve.table_size.Goals as goal

pub overflow_mul-result : goal.overflow_mul-result
overflow_mul-result = grind (arith, common_steps)
