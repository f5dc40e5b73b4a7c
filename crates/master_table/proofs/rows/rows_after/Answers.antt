use Rattle.std.proofs.Common.{arith}
use Rattle.std.proofs.lemmas.Grind.{common_steps}
use Rattle.master_table.proofs.rows.rows_after.Goals as goal

pub returns-in-Some-clause-wide : goal.returns-in-Some-clause-wide
returns-in-Some-clause-wide = grind (arith, common_steps)

pub returns-clause-rows : goal.returns-clause-rows
returns-clause-rows = grind (arith, common_steps)

pub returns-clause-within : goal.returns-clause-within
returns-clause-within = grind (arith, common_steps)

pub loop-i-preserved : goal.loop-i-preserved
loop-i-preserved = grind (arith, common_steps)
