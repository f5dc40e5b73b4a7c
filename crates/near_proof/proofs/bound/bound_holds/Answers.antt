use Rattle.std.proofs.Common.{arith}
use Rattle.std.proofs.lemmas.Grind.{common_steps}
use Rattle.near_proof.proofs.bound.bound_holds.Goals as goal

pub returns-else-proof-eq1 : goal.returns-else-proof-eq1
returns-else-proof-eq1 = grind (arith, common_steps)

pub returns-then-proof-eq1 : goal.returns-then-proof-eq1
returns-then-proof-eq1 = grind (arith, common_steps)
