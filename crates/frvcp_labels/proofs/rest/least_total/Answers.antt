use Rattle.std.proofs.Common.{arith}
use Rattle.std.proofs.lemmas.Grind.{common_steps}
use Rattle.frvcp_labels.proofs.rest.least_total.Goals as goal

pub loop-point-preserved : goal.loop-point-preserved
loop-point-preserved = grind (arith, common_steps)
