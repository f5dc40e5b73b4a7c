use Rattle.std.proofs.Common.{arith}
use Rattle.std.proofs.lemmas.Grind.{common_steps}
use Rattle.master_simplex.proofs.helpers.some_entry.Goals as goal

pub loop-col-preserved : goal.loop-col-preserved
loop-col-preserved = grind (arith, common_steps)
