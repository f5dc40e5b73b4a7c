use Rattle.std.proofs.Common.{arith}
use Rattle.std.proofs.lemmas.Grind.{common_steps}
use Rattle.master_simplex.proofs.restore.added_row.Goals as goal

pub returns-then-entry-ne0-clause-none : goal.returns-then-entry-ne0-clause-none
returns-then-entry-ne0-clause-none = grind (arith, common_steps)
