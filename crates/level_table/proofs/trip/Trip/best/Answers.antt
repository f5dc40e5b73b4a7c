use Rattle.std.proofs.Common.{arith}
use Rattle.std.proofs.lemmas.Grind.{common_steps}
use Rattle.level_table.proofs.trip.Trip.best.Goals as goal

pub returns-then-from-clause-least : goal.returns-then-from-clause-least
returns-then-from-clause-least = grind (arith, common_steps)
