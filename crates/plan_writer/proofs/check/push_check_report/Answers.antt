use Rattle.std.proofs.Common.{arith}
use Rattle.std.proofs.lemmas.Grind.{common_steps}
use Rattle.plan_writer.proofs.check.push_check_report.Goals as goal

pub returns-in_ok-push_verdict-in-Certificate-clause-err : goal.returns-in_ok-push_verdict-in-Certificate-clause-err
returns-in_ok-push_verdict-in-Certificate-clause-err = grind (arith, common_steps)

pub returns-in_err-extend_from_slice-in-Certificate-clause-err : goal.returns-in_err-extend_from_slice-in-Certificate-clause-err
returns-in_err-extend_from_slice-in-Certificate-clause-err = grind (arith, common_steps)

pub returns-in_err-push_verdict-in-Certificate-clause-err : goal.returns-in_err-push_verdict-in-Certificate-clause-err
returns-in_err-push_verdict-in-Certificate-clause-err = grind (arith, common_steps)

pub returns-in_ok-push_verdict-in-Certificate-clause-ok : goal.returns-in_ok-push_verdict-in-Certificate-clause-ok
returns-in_ok-push_verdict-in-Certificate-clause-ok = grind (arith, common_steps)

pub returns-in_err-extend_from_slice-in-Accepted-clause-err : goal.returns-in_err-extend_from_slice-in-Accepted-clause-err
returns-in_err-extend_from_slice-in-Accepted-clause-err = grind (arith, common_steps)

pub returns-in_ok-extend_from_slice-in-Accepted-clause-err : goal.returns-in_ok-extend_from_slice-in-Accepted-clause-err
returns-in_ok-extend_from_slice-in-Accepted-clause-err = grind (arith, common_steps)
