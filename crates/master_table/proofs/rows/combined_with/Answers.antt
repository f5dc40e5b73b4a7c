use Rattle.std.proofs.Common.{arith}
use Rattle.std.proofs.lemmas.Grind.{common_steps}
use Rattle.master_table.proofs.rows.combined_with.Goals as goal

pub combined_entry-requires-clause-y : goal.combined_entry-requires-clause-y
combined_entry-requires-clause-y = grind (arith, common_steps)

pub combined_entry-requires-clause-x : goal.combined_entry-requires-clause-x
combined_entry-requires-clause-x = grind (arith, common_steps)

pub combined_entry-requires-clause-by : goal.combined_entry-requires-clause-by
combined_entry-requires-clause-by = grind (arith, common_steps)
