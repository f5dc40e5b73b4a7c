use Rattle.std.proofs.Common.{arith}
use Rattle.std.proofs.lemmas.Grind.{common_steps}
use Rattle.branching.proofs.node.is_branch_pair.Goals as goal

pub returns-then-allows : goal.returns-then-allows
returns-then-allows = grind (arith, common_steps)

pub returns-then-i-eq0 : goal.returns-then-i-eq0
returns-then-i-eq0 = grind (arith, common_steps)

pub returns-else-allows : goal.returns-else-allows
returns-else-allows = grind (arith, common_steps)
