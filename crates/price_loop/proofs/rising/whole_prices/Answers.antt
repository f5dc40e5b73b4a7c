use Rattle.std.proofs.Common.{arith}
use Rattle.std.proofs.lemmas.Grind.{common_steps}
use Rattle.price_loop.proofs.rising.whole_prices.Goals as goal

pub loop-price-preserved : goal.loop-price-preserved
loop-price-preserved = grind (arith, common_steps)

pub returns-clause-of : goal.returns-clause-of
returns-clause-of = grind (arith, common_steps)
