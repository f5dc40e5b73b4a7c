use Rattle.std.proofs.Common.{arith}
use Rattle.std.proofs.lemmas.Grind.{common_steps, elements}
use Rattle.master_table.proofs.over.own_size.Goals as goal

pub returns-clause-value : goal.returns-clause-value
returns-clause-value = grind (arith, common_steps)

pub returns-clause-some : goal.returns-clause-some
returns-clause-some = grind (arith, elements)
