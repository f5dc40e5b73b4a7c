use Rattle.std.proofs.Common.{arith}
use Rattle.std.proofs.lemmas.Grind.{common_steps}
use Rattle.level_table.proofs.trip.Trip.settle.Goals as goal

pub loop-smaller : goal.loop-smaller
loop-smaller = grind (arith, common_steps)

pub returns-clause-closed : goal.returns-clause-closed
returns-clause-closed = grind (arith, common_steps)
