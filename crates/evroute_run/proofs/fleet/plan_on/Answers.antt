use Rattle.std.proofs.Common.{arith}
use Rattle.std.proofs.lemmas.Grind.{common_steps}
use Rattle.evroute_run.proofs.fleet.plan_on.Goals as goal

pub returns : goal.returns
returns = grind (arith, common_steps)
