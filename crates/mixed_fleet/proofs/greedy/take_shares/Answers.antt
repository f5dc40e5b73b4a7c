use Rattle.std.proofs.Common.{arith}
use Rattle.std.proofs.lemmas.Grind.{common_steps}
use Rattle.mixed_fleet.proofs.greedy.take_shares.Goals as goal

pub take-requires-clause-taken : goal.take-requires-clause-taken
take-requires-clause-taken = grind (arith, common_steps)

pub loop-at-preserved : goal.loop-at-preserved
loop-at-preserved = grind (arith, common_steps)

pub take-requires-clause-route : goal.take-requires-clause-route
take-requires-clause-route = grind (arith, common_steps)
