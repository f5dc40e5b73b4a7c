use Rattle.std.proofs.Common.{arith}
use Rattle.std.proofs.lemmas.Grind.{common_steps}
use Rattle.ev_fleet.proofs.search.goes_on.Goals as goal

pub returns-else-is_within-clause-ended : goal.returns-else-is_within-clause-ended
returns-else-is_within-clause-ended = grind (arith, common_steps)

pub returns-then-is_within-clause-ended : goal.returns-then-is_within-clause-ended
returns-then-is_within-clause-ended = grind (arith, common_steps)
