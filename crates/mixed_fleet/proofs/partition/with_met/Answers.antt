use Rattle.std.proofs.Common.{arith}
use Rattle.std.proofs.lemmas.Grind.{common_steps}
use Rattle.mixed_fleet.proofs.partition.with_met.Goals as goal

pub find_partition-requires : goal.find_partition-requires
find_partition-requires = grind (arith, common_steps)

pub routes_at-requires-clause-places : goal.routes_at-requires-clause-places
routes_at-requires-clause-places = grind (arith, common_steps)
