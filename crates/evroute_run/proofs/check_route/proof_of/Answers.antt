use Rattle.std.proofs.Common.{arith}
use Rattle.std.proofs.lemmas.Grind.{common_steps}
use Rattle.evroute_run.proofs.check_route.proof_of.Goals as goal

pub returns-in-Err : goal.returns-in-Err
returns-in-Err = grind (arith, common_steps)
