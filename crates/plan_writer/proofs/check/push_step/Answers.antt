use Rattle.std.proofs.Common.{arith}
use Rattle.std.proofs.lemmas.Grind.{common_steps}
use Rattle.plan_writer.proofs.check.push_step.Goals as goal

pub returns-in_err-push_numbered-2-clause-err : goal.returns-in_err-push_numbered-2-clause-err
returns-in_err-push_numbered-2-clause-err = grind (arith, common_steps)

pub returns-clause-err : goal.returns-clause-err
returns-clause-err = grind (arith, common_steps)

pub returns-clause-ok : goal.returns-clause-ok
returns-clause-ok = grind (arith, common_steps)
