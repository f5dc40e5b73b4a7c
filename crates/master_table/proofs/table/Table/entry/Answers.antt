use Rattle.std.proofs.Common.{arith}
use Rattle.std.proofs.lemmas.Grind.{common_steps, elements}
use Rattle.master_table.proofs.table.Table.entry.Goals as goal

pub returns-else-col-len-clause-right : goal.returns-else-col-len-clause-right
returns-else-col-len-clause-right = grind (arith, common_steps)

pub returns-then-col-len-clause-entry : goal.returns-then-col-len-clause-entry
returns-then-col-len-clause-entry = grind (arith, common_steps)

pub index-row-requires : goal.index-row-requires
index-row-requires = grind (arith, common_steps)

pub returns-else-col-len-clause-entry : goal.returns-else-col-len-clause-entry
returns-else-col-len-clause-entry = grind (arith, common_steps)

pub returns-then-col-len-clause-right : goal.returns-then-col-len-clause-right
returns-then-col-len-clause-right = grind (arith, elements)
