use Rattle.std.proofs.Common.{arith}
use Rattle.std.proofs.lemmas.Grind.{common_steps}
use Rattle.route_proof.proofs.writing.push_proof.Goals as goal

pub returns-clause-ok : goal.returns-clause-ok
returns-clause-ok = grind (arith, common_steps)
