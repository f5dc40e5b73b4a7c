use Rattle.std.proofs.Common.{arith}
use Rattle.std.proofs.lemmas.Grind.{common_steps}
use Rattle.evroute_run.proofs.trip.start.Goals as goal

pub returns-else-level-full-clause-ended : goal.returns-else-level-full-clause-ended
returns-else-level-full-clause-ended = grind (arith, common_steps)
