use Rattle.std.proofs.Common.{arith}
use Rattle.std.proofs.lemmas.Grind.{common_steps}
use Rattle.plan_writer.proofs.check.push_end.Goals as goal

pub returns-clause-err : goal.returns-clause-err
returns-clause-err = grind (arith, common_steps)
