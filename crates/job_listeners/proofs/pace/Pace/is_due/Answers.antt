use Rattle.std.proofs.Common.{arith}
use Rattle.std.proofs.lemmas.Grind.{common_steps}
use Rattle.job_listeners.proofs.pace.Pace.is_due.Goals as goal

pub returns-in_default-clause-due : goal.returns-in_default-clause-due
returns-in_default-clause-due = grind (arith, common_steps)

pub returns-then-is_none-clause-due : goal.returns-then-is_none-clause-due
returns-then-is_none-clause-due = grind (arith, common_steps)

pub returns-clause-due : goal.returns-clause-due
returns-clause-due = grind (arith, common_steps)
