use Rattle.std.proofs.Common.{arith}
use Rattle.std.proofs.lemmas.Grind.{common_steps}
use Rattle.level_table.proofs.trip.Trip.mark_home.Goals as goal

pub returns : goal.returns
returns = grind (arith, common_steps)

pub loop-index-init : goal.loop-index-init
loop-index-init = grind (arith, common_steps)
