use Rattle.std.proofs.Common.{arith}
use Rattle.std.proofs.lemmas.Grind.{common_steps}
use Rattle.tree_text.proofs.writing.section.write_entry_prices.Goals as goal

pub returns : goal.returns
returns = grind (arith, common_steps)

pub loop-price-preserved : goal.loop-price-preserved
loop-price-preserved = grind (arith, common_steps)
