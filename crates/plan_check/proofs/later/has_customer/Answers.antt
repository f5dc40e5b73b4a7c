use Rattle.std.proofs.Common.{arith}
use Rattle.std.proofs.lemmas.Grind.{common_steps}
use Rattle.plan_check.proofs.later.has_customer.Goals as goal

pub returns-then-is_some : goal.returns-then-is_some
returns-then-is_some = grind (arith, common_steps)
