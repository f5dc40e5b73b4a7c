use Rattle.std.proofs.Common.{arith}
use Rattle.std.proofs.lemmas.Grind.{common_steps}
use Rattle.level_table.proofs.trip.Trip.empty_table.Goals as goal

pub returns : goal.returns
returns = grind (arith, common_steps)
