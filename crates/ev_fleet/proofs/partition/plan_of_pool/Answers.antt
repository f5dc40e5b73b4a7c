use Rattle.std.proofs.Common.{arith}
use Rattle.std.proofs.lemmas.Grind.{common_steps}
use Rattle.ev_fleet.proofs.partition.plan_of_pool.Goals as goal

pub returns : goal.returns
returns = grind (arith, common_steps)

pub find_partition-requires : goal.find_partition-requires
find_partition-requires = grind (arith, common_steps)
