use Rattle.std.proofs.Common.{arith}
use Rattle.std.proofs.lemmas.Grind.{common_steps}
use Rattle.master_simplex.proofs.ratio.entries_precede.Goals as goal

pub returns-in-Some : goal.returns-in-Some
returns-in-Some = grind (arith, common_steps)

pub loop-place-preserved : goal.loop-place-preserved
loop-place-preserved = grind (arith, common_steps)
