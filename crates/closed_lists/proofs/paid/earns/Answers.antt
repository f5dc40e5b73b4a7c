use Rattle.std.proofs.Common.{arith}
use Rattle.std.proofs.lemmas.Grind.{common_steps}
use Rattle.closed_lists.proofs.paid.earns.Goals as goal

pub returns-else-paid-gt0 : goal.returns-else-paid-gt0
returns-else-paid-gt0 = grind (arith, common_steps)

pub returns-then-paid-gt0 : goal.returns-then-paid-gt0
returns-then-paid-gt0 = grind (arith, common_steps)
