use Rattle.std.proofs.Common.{arith}
use Rattle.std.proofs.lemmas.Grind.{common_steps}
use Rattle.ev_outside.proofs.streams.read_up_to.Goals as goal

pub loop-left-preserved : goal.loop-left-preserved
loop-left-preserved = grind (arith, common_steps)
