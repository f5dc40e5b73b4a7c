use Rattle.std.proofs.Common.{arith}
use Rattle.std.proofs.lemmas.Grind.{common_steps}
use Rattle.near_text.proofs.writing.write_each_price.Goals as goal

pub returns : goal.returns
returns = grind (arith, common_steps)

pub loop-price-preserved : goal.loop-price-preserved
loop-price-preserved = grind (arith, common_steps)
