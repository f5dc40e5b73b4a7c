use Rattle.std.proofs.Common.{arith}
use Rattle.std.proofs.lemmas.Grind.{common_steps}
use Rattle.bound_certificate.proofs.ranges.root.columns_fit.Goals as goal

pub returns-then-each_column_fits : goal.returns-then-each_column_fits
returns-then-each_column_fits = grind (arith, common_steps)

pub returns-else-each_column_fits : goal.returns-else-each_column_fits
returns-else-each_column_fits = grind (arith, common_steps)
