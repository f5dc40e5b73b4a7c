use Rattle.std.proofs.Common.{arith}
use Rattle.std.proofs.lemmas.Grind.{common_steps}
use Rattle.level_table.proofs.reach.Reach.is_nearer.Goals as goal

pub returns-then-self-other : goal.returns-then-self-other
returns-then-self-other = grind (arith, common_steps)

pub returns-then-self-other-2 : goal.returns-then-self-other-2
returns-then-self-other-2 = grind (arith, common_steps)

pub returns-in-None : goal.returns-in-None
returns-in-None = grind (arith, common_steps)

pub returns-else-self-other-2 : goal.returns-else-self-other-2
returns-else-self-other-2 = grind (arith, common_steps)
