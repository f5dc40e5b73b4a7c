use Rattle.std.proofs.Common.{arith}
use Rattle.std.proofs.lemmas.Grind.{elements}
use Rattle.near_proof.proofs.check.has_tight.Goals as goal

pub returns-in-Some : goal.returns-in-Some
returns-in-Some = grind (arith, elements)
