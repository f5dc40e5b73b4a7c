use Rattle.std.proofs.Common.{arith}
use Rattle.std.proofs.lemmas.Grind.{common_steps}
use Rattle.order_pricing.proofs.pricer.Pricer.least_times.Goals as goal

pub returns-clause-times : goal.returns-clause-times
returns-clause-times = grind (arith, common_steps)
