use Rattle.std.proofs.Common.{arith}
use Rattle.std.proofs.lemmas.Grind.{common_steps}
use Rattle.column_pool.proofs.estimate.estimate_node.Goals as goal

pub same-table-in-loop : goal.same-table-in-loop
same-table-in-loop = grind (arith, common_steps)
