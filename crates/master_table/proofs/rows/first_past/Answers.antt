use Rattle.std.proofs.Common.{arith}
use Rattle.std.proofs.lemmas.Grind.{common_steps}
use Rattle.master_table.proofs.rows.first_past.Goals as goal

pub loop-i-preserved : goal.loop-i-preserved
loop-i-preserved = grind (arith, common_steps)
