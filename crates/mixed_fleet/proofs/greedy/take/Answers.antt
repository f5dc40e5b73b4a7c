use Rattle.std.proofs.Common.{arith}
use Rattle.std.proofs.lemmas.Grind.{common_steps}
use Rattle.mixed_fleet.proofs.greedy.take.Goals as goal

pub returns-in_ok-push : goal.returns-in_ok-push
returns-in_ok-push = grind (arith, common_steps)
