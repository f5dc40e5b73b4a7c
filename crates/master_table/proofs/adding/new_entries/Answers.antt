use Rattle.std.proofs.Common.{arith}
use Rattle.std.proofs.lemmas.Grind.{common_steps}
use Rattle.master_table.proofs.adding.new_entries.Goals as goal

pub new_entry-requires-clause-weight : goal.new_entry-requires-clause-weight
new_entry-requires-clause-weight = grind (arith, common_steps)

pub returns : goal.returns
returns = grind (arith, common_steps)

pub loop-i-preserved : goal.loop-i-preserved
loop-i-preserved = grind (arith, common_steps)
