use Rattle.std.proofs.Common.{arith}
use Rattle.std.proofs.lemmas.Grind.{common_steps}
use Rattle.certificate_parts.proofs.ranges.label.is_last.Goals as goal

pub returns-then-node-eq0 : goal.returns-then-node-eq0
returns-then-node-eq0 = grind (arith, common_steps)

pub returns-else-node-eq0 : goal.returns-else-node-eq0
returns-else-node-eq0 = grind (arith, common_steps)
