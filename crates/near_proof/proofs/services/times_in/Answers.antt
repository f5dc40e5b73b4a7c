use Rattle.std.proofs.Common.{arith}
use Rattle.std.proofs.lemmas.Grind.{common_steps}
use Rattle.near_proof.proofs.services.times_in.Goals as goal

pub loop-other-preserved : goal.loop-other-preserved
loop-other-preserved = grind (arith, common_steps)
