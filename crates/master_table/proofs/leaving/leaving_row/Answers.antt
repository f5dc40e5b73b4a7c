use Rattle.std.proofs.Common.{arith}
use Rattle.std.proofs.lemmas.Grind.{elements}
use Rattle.master_table.proofs.leaving.leaving_row.Goals as goal

pub loop-row-preserved : goal.loop-row-preserved
loop-row-preserved = grind (arith, elements)

pub returns-clause-last : goal.returns-clause-last
returns-clause-last = grind (arith, elements)
