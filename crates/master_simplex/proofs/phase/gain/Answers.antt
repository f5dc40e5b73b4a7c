use Rattle.std.proofs.Common.{arith}
use Rattle.std.proofs.lemmas.Grind.{common_steps}
use Rattle.master_simplex.proofs.phase.gain.Goals as goal

pub returns-in-Helpers : goal.returns-in-Helpers
returns-in-Helpers = grind (arith, common_steps)

pub returns-in-Cost : goal.returns-in-Cost
returns-in-Cost = grind (arith, common_steps)

pub opposite-requires : goal.opposite-requires
opposite-requires = grind (arith, common_steps)
