use Rattle.std.proofs.Common.{arith}
use Rattle.std.proofs.lemmas.Grind.{common_steps}
use Rattle.label_search.proofs.coverage.reach_of.Goals as goal

pub returns-clause-ends : goal.returns-clause-ends
returns-clause-ends = grind (arith, common_steps)

pub returns-clause-up : goal.returns-clause-up
returns-clause-up = grind (arith, common_steps)
