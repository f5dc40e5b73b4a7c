use Rattle.std.proofs.Common.{arith}
use Rattle.std.proofs.lemmas.Grind.{common_steps}
use Rattle.mixed_run.proofs.judging.proof_of.Goals as goal

pub returns-in-Err : goal.returns-in-Err
returns-in-Err = grind (arith, common_steps)
