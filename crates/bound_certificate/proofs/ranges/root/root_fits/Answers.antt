use Rattle.std.proofs.Common.{arith}
use Rattle.std.proofs.lemmas.Grind.{common_steps}
use Rattle.bound_certificate.proofs.ranges.root.root_fits.Goals as goal

pub returns-in-Exact : goal.returns-in-Exact
returns-in-Exact = grind (arith, common_steps)

pub returns-in-Wide : goal.returns-in-Wide
returns-in-Wide = grind (arith, common_steps)
