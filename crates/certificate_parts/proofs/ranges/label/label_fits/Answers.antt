use Rattle.std.proofs.Common.{arith}
use Rattle.std.proofs.lemmas.Grind.{common_steps}
use Rattle.certificate_parts.proofs.ranges.label.label_fits.Goals as goal

pub returns-then-holds_customers : goal.returns-then-holds_customers
returns-then-holds_customers = grind (arith, common_steps)

pub returns-else-holds_customers : goal.returns-else-holds_customers
returns-else-holds_customers = grind (arith, common_steps)
