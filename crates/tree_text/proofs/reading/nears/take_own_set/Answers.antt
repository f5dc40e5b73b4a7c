use Rattle.std.proofs.Common.{arith}
use Rattle.std.proofs.lemmas.Grind.{common_steps}
use Rattle.tree_text.proofs.reading.nears.take_own_set.Goals as goal

pub returns-clause-fault : goal.returns-clause-fault
returns-clause-fault = grind (arith, common_steps)

pub returns-clause-ok : goal.returns-clause-ok
returns-clause-ok = grind (arith, common_steps)
