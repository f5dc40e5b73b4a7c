use Rattle.std.proofs.Common.{arith}
use Rattle.std.proofs.lemmas.Grind.{common_steps}
use Rattle.near_tree.proofs.paid.earns.Goals as goal

pub returns-else-earned-gt0 : goal.returns-else-earned-gt0
returns-else-earned-gt0 = grind (arith, common_steps)

pub returns-then-earned-gt0 : goal.returns-then-earned-gt0
returns-then-earned-gt0 = grind (arith, common_steps)
