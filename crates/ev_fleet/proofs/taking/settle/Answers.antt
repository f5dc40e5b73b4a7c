use Rattle.std.proofs.Common.{arith}
use Rattle.std.proofs.lemmas.Grind.{common_steps}
use Rattle.ev_fleet.proofs.taking.settle.Goals as goal

pub split-requires-clause-pair : goal.split-requires-clause-pair
split-requires-clause-pair = grind (arith, common_steps)
