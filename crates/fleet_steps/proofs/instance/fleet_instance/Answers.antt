use Rattle.std.proofs.Common.{arith}
use Rattle.std.proofs.lemmas.Grind.{common_steps}
use Rattle.fleet_steps.proofs.instance.fleet_instance.Goals as goal

pub returns-then-count-gt-MOST_CUSTOMERS-clause-ended : goal.returns-then-count-gt-MOST_CUSTOMERS-clause-ended
returns-then-count-gt-MOST_CUSTOMERS-clause-ended = grind (arith, common_steps)

pub returns-clause-ok : goal.returns-clause-ok
returns-clause-ok = grind (arith, common_steps)
