use Rattle.std.proofs.Common.{arith}
use Rattle.std.proofs.lemmas.Grind.{common_steps}
use Rattle.master_table.proofs.rows.turn_row.Goals as goal

pub negate_all-requires : goal.negate_all-requires
negate_all-requires = grind (arith, common_steps)
