use Rattle.std.proofs.Common.{arith}
use Rattle.std.proofs.lemmas.Grind.{common_steps}
use Rattle.near_proof.proofs.margins.margin.Goals as goal

pub returns-clause-some : goal.returns-clause-some
returns-clause-some = grind (arith, common_steps)
