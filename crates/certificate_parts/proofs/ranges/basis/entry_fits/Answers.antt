use Rattle.std.proofs.Common.{arith}
use Rattle.std.proofs.lemmas.Grind.{common_steps}
use Rattle.certificate_parts.proofs.ranges.basis.entry_fits.Goals as goal

pub returns-in-Helper : goal.returns-in-Helper
returns-in-Helper = grind (arith, common_steps)

pub returns-in-Column : goal.returns-in-Column
returns-in-Column = grind (arith, common_steps)
