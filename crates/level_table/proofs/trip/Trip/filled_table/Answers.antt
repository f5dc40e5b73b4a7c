use Rattle.std.proofs.Common.{arith}
use Rattle.std.proofs.lemmas.Grind.{common_steps}
use Rattle.level_table.proofs.trip.Trip.filled_table.Goals as goal

pub returns-clause-table : goal.returns-clause-table
returns-clause-table = grind (arith, common_steps)

pub settle-requires-clause-table : goal.settle-requires-clause-table
settle-requires-clause-table = grind (arith, common_steps)

pub settle_layers-requires : goal.settle_layers-requires
settle_layers-requires = grind (arith, common_steps)

pub returns-clause-closed : goal.returns-clause-closed
returns-clause-closed = grind (arith, common_steps)
