use Rattle.std.proofs.Common.{arith}
use Rattle.std.proofs.lemmas.Grind.{common_steps}
use Rattle.bound_certificate.proofs.ranges.section.section_fits.Goals as goal

pub returns-then-customers : goal.returns-then-customers
returns-then-customers = grind (arith, common_steps)

pub returns-else-customers : goal.returns-else-customers
returns-else-customers = grind (arith, common_steps)
