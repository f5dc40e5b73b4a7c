use Rattle.std.proofs.Common.{arith}
use Rattle.std.proofs.lemmas.Grind.{common_steps}
use Rattle.ev_fleet.proofs.greedy.meet.Goals as goal

pub returns-then-visits : goal.returns-then-visits
returns-then-visits = grind (arith, common_steps)
