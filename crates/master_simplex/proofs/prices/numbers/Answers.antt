use Rattle.std.proofs.Common.{arith}
use Rattle.std.proofs.lemmas.Grind.{common_steps}
use Rattle.master_simplex.proofs.prices.numbers.Goals as goal

pub returns : goal.returns
returns = grind (arith, common_steps)

pub loop-c-preserved : goal.loop-c-preserved
loop-c-preserved = grind (arith, common_steps)
