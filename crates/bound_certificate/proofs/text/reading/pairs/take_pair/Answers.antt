use Rattle.std.proofs.Common.{arith}
use Rattle.std.proofs.lemmas.Grind.{common_steps}
use Rattle.bound_certificate.proofs.text.reading.pairs.take_pair.Goals as goal

pub returns-clause-first : goal.returns-clause-first
returns-clause-first = grind (arith, common_steps)
