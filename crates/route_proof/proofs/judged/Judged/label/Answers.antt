use Rattle.std.proofs.Common.{arith}
use Rattle.std.proofs.lemmas.Grind.{elements}
use Rattle.route_proof.proofs.judged.Judged.label.Goals as goal

pub returns-clause-value : goal.returns-clause-value
returns-clause-value = grind (arith, elements)
