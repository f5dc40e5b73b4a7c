use Rattle.std.proofs.Common.{arith}
use Rattle.std.proofs.lemmas.Grind.{common_steps}
use Rattle.plan_schedule.proofs.plan.only_route.Goals as goal

pub returns-clause-value : goal.returns-clause-value
returns-clause-value = grind (arith, common_steps)
