use Rattle.std.proofs.Common.{arith}
use Rattle.std.proofs.lemmas.Grind.{common_steps}
use Rattle.near_proof.proofs.check.loose_customer.Goals as goal

pub returns-then-not-branch : goal.returns-then-not-branch
returns-then-not-branch = grind (arith, common_steps)

pub loop-node-preserved : goal.loop-node-preserved
loop-node-preserved = grind (arith, common_steps)
