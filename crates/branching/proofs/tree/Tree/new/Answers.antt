use Rattle.std.proofs.Common.{arith}
use Rattle.std.proofs.lemmas.Grind.{common_steps}
use Rattle.branching.proofs.tree.Tree.new.Goals as goal

pub returns-clause-root : goal.returns-clause-root
returns-clause-root = grind (arith, common_steps)
