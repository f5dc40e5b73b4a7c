use Rattle.std.proofs.Common.{arith}
use Rattle.std.proofs.lemmas.Grind.{common_steps}
use Rattle.near_pricing.proofs.value.value_after.Goals as goal

pub returns-clause-points : goal.returns-clause-points
returns-clause-points = grind (arith, common_steps)
