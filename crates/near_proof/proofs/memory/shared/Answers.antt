use Rattle.std.proofs.Common.{arith}
use Rattle.std.proofs.lemmas.Grind.{common_steps}
use Rattle.near_proof.proofs.memory.shared.Goals as goal

pub loop-c-preserved : goal.loop-c-preserved
loop-c-preserved = grind (arith, common_steps)
