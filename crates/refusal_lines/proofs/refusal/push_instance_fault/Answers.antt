use Rattle.std.proofs.Common.{arith}
use Rattle.std.proofs.lemmas.Grind.{common_steps}
use Rattle.refusal_lines.proofs.refusal.push_instance_fault.Goals as goal

pub returns-in_err-extend_from_slice-in-Missing-clause-err : goal.returns-in_err-extend_from_slice-in-Missing-clause-err
returns-in_err-extend_from_slice-in-Missing-clause-err = grind (arith, common_steps)

pub returns-in_ok-extend_from_slice-in-Missing-clause-err : goal.returns-in_ok-extend_from_slice-in-Missing-clause-err
returns-in_ok-extend_from_slice-in-Missing-clause-err = grind (arith, common_steps)
