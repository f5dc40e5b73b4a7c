use Rattle.std.proofs.Common.{arith}
use Rattle.std.proofs.lemmas.Grind.{common_steps}
use Rattle.report_lines.proofs.fraction.push_fraction.Goals as goal

pub returns-clause-ok : goal.returns-clause-ok
returns-clause-ok = grind (arith, common_steps)

pub returns-in_err-push_signed-clause-err : goal.returns-in_err-push_signed-clause-err
returns-in_err-push_signed-clause-err = grind (arith, common_steps)

pub returns-clause-err : goal.returns-clause-err
returns-clause-err = grind (arith, common_steps)
