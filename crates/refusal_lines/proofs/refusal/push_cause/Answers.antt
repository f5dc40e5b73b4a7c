use Rattle.std.proofs.Common.{arith}
use Rattle.std.proofs.lemmas.Grind.{common_steps}
use Rattle.refusal_lines.proofs.refusal.push_cause.Goals as goal

pub returns-in_ok-extend_from_slice-in-Route-clause-err : goal.returns-in_ok-extend_from_slice-in-Route-clause-err
returns-in_ok-extend_from_slice-in-Route-clause-err = grind (arith, common_steps)

pub returns-in_ok-extend_from_slice-in-Literal-clause-ok : goal.returns-in_ok-extend_from_slice-in-Literal-clause-ok
returns-in_ok-extend_from_slice-in-Literal-clause-ok = grind (arith, common_steps)

pub returns-in_err-extend_from_slice-in-Plan-clause-err : goal.returns-in_err-extend_from_slice-in-Plan-clause-err
returns-in_err-extend_from_slice-in-Plan-clause-err = grind (arith, common_steps)

pub returns-in_err-extend_from_slice-in-Certificate-clause-err : goal.returns-in_err-extend_from_slice-in-Certificate-clause-err
returns-in_err-extend_from_slice-in-Certificate-clause-err = grind (arith, common_steps)

pub returns-in_ok-extend_from_slice-in-Plan-clause-err : goal.returns-in_ok-extend_from_slice-in-Plan-clause-err
returns-in_ok-extend_from_slice-in-Plan-clause-err = grind (arith, common_steps)

pub returns-in_err-extend_from_slice-in-Literal-clause-err : goal.returns-in_err-extend_from_slice-in-Literal-clause-err
returns-in_err-extend_from_slice-in-Literal-clause-err = grind (arith, common_steps)

pub returns-in_err-extend_from_slice-in-Route-clause-err : goal.returns-in_err-extend_from_slice-in-Route-clause-err
returns-in_err-extend_from_slice-in-Route-clause-err = grind (arith, common_steps)

pub returns-in_err-extend_from_slice-in-Instance-clause-err : goal.returns-in_err-extend_from_slice-in-Instance-clause-err
returns-in_err-extend_from_slice-in-Instance-clause-err = grind (arith, common_steps)

pub returns-in_ok-extend_from_slice-in-Instance-clause-err : goal.returns-in_ok-extend_from_slice-in-Instance-clause-err
returns-in_ok-extend_from_slice-in-Instance-clause-err = grind (arith, common_steps)

pub returns-in_ok-extend_from_slice-in-Route-clause-ok : goal.returns-in_ok-extend_from_slice-in-Route-clause-ok
returns-in_ok-extend_from_slice-in-Route-clause-ok = grind (arith, common_steps)

pub returns-in_ok-extend_from_slice-in-Certificate-clause-err : goal.returns-in_ok-extend_from_slice-in-Certificate-clause-err
returns-in_ok-extend_from_slice-in-Certificate-clause-err = grind (arith, common_steps)

pub returns-in_ok-extend_from_slice-in-Certificate-clause-ok : goal.returns-in_ok-extend_from_slice-in-Certificate-clause-ok
returns-in_ok-extend_from_slice-in-Certificate-clause-ok = grind (arith, common_steps)

pub returns-in_ok-extend_from_slice-in-Plan-clause-ok : goal.returns-in_ok-extend_from_slice-in-Plan-clause-ok
returns-in_ok-extend_from_slice-in-Plan-clause-ok = grind (arith, common_steps)

pub returns-in_ok-extend_from_slice-in-Literal-clause-err : goal.returns-in_ok-extend_from_slice-in-Literal-clause-err
returns-in_ok-extend_from_slice-in-Literal-clause-err = grind (arith, common_steps)
