use Rattle.std.proofs.Common.{arith}
use Rattle.std.proofs.lemmas.Grind.{common_steps}
use Rattle.bound_certificate.proofs.text.reading.tree.take_split.Goals as goal

pub returns-clause-fits : goal.returns-clause-fits
returns-clause-fits = grind (arith, common_steps)
