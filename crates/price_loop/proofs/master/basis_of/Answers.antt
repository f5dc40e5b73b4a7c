use Rattle.std.proofs.Common.{arith}
use Rattle.std.proofs.lemmas.Grind.{common_steps}
use Rattle.price_loop.proofs.master.basis_of.Goals as goal

pub loop-row-preserved : goal.loop-row-preserved
loop-row-preserved = grind (arith, common_steps)

pub returns : goal.returns
returns = grind (arith, common_steps)
