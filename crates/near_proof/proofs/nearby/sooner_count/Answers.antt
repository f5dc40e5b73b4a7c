use Rattle.std.proofs.Common.{arith}
use Rattle.std.proofs.lemmas.Grind.{common_steps}
use Rattle.near_proof.proofs.nearby.sooner_count.Goals as goal

pub loop-customer-preserved : goal.loop-customer-preserved
loop-customer-preserved = grind (arith, common_steps)
