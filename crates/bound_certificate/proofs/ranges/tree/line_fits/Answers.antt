use Rattle.std.proofs.Common.{arith}
use Rattle.std.proofs.lemmas.Grind.{common_steps}
use Rattle.bound_certificate.proofs.ranges.tree.line_fits.Goals as goal

pub returns-in-Leaf : goal.returns-in-Leaf
returns-in-Leaf = grind (arith, common_steps)
