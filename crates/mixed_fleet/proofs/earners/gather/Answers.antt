use Rattle.std.proofs.Common.{arith}
use Rattle.std.proofs.lemmas.Grind.{common_steps}
use Rattle.mixed_fleet.proofs.earners.gather.Goals as goal

pub returns-in_ok-append-in-Better : goal.returns-in_ok-append-in-Better
returns-in_ok-append-in-Better = grind (arith, common_steps)
