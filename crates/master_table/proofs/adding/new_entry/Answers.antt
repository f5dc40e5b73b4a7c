use Rattle.std.proofs.Common.{arith}
use Rattle.std.proofs.lemmas.Grind.{common_steps}
use Rattle.master_table.proofs.adding.new_entry.Goals as goal

pub total_over-total-requires-clause-small : goal.total_over-total-requires-clause-small
total_over-total-requires-clause-small = grind (arith, common_steps)

pub returns : goal.returns
returns = grind (arith, common_steps)
