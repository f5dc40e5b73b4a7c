use Rattle.std.proofs.Common.{arith}
use Rattle.std.proofs.lemmas.Grind.{common_steps}
use Rattle.report_lines.proofs.scaled.push_scaled_line.Goals as goal

pub returns-clause-err : goal.returns-clause-err
returns-clause-err = grind (arith, common_steps)

pub returns-in_err-push_scaled-clause-err : goal.returns-in_err-push_scaled-clause-err
returns-in_err-push_scaled-clause-err = grind (arith, common_steps)
