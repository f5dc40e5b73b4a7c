use Rattle.std.proofs.Common.{arith}
use Rattle.std.proofs.lemmas.Grind.{common_steps, elements}
use Rattle.branching.proofs.node.is_narrowed.Goals as goal

pub returns : goal.returns
returns = grind (arith, common_steps)

pub returns-then-allows-2 : goal.returns-then-allows-2
returns-then-allows-2 = grind (arith, elements)
