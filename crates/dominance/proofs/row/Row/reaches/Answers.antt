use Rattle.std.proofs.Common.{arith}
use Rattle.std.proofs.lemmas.Grind.{common_steps, elements}
use Rattle.dominance.proofs.row.Row.reaches.Goals as goal

pub returns-then-index-len : goal.returns-then-index-len
returns-then-index-len = grind (arith, common_steps)

pub returns : goal.returns
returns = grind (arith, elements)
