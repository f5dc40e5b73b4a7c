use Rattle.std.proofs.Common.{arith}
use Rattle.std.proofs.lemmas.Grind.{elements}
use Rattle.bound_certificate.proofs.text.reading.tree.take_other.Goals as goal

pub returns-in_err-j-clause-fault : goal.returns-in_err-j-clause-fault
returns-in_err-j-clause-fault = grind (arith, elements)
