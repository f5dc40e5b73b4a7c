use Rattle.std.proofs.Common.{arith}
use Rattle.std.proofs.lemmas.Grind.{common_steps}
use Rattle.certificate_check.proofs.routes.served_once.Goals as goal

pub loop-stop-preserved : goal.loop-stop-preserved
loop-stop-preserved = grind (arith, common_steps)
