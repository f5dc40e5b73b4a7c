use Rattle.std.proofs.Common.{arith}
use Rattle.std.proofs.lemmas.Grind.{common_steps}
use Rattle.near_pricing.proofs.hopeless.hopeless_labels.Goals as goal

pub loop-node-init : goal.loop-node-init
loop-node-init = grind (arith, common_steps)
