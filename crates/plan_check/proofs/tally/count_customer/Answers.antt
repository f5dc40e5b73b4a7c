use Rattle.std.proofs.Common.{arith}
use Rattle.plan_check.proofs.VisitCounts.{tallies_customer}
use Rattle.std.proofs.lemmas.Grind.{common_steps}
use Rattle.plan_check.proofs.tally.count_customer.Goals as goal

pub returns : goal.returns
returns = grind (arith, common_steps, tallies_customer)
