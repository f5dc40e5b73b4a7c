use Rattle.std.proofs.Common.{arith}
use Rattle.std.proofs.lemmas.Grind.{common_steps}
use Rattle.certificate_parts.proofs.reading.numbers.take_weight.Goals as goal

pub returns-in_err-weight-clause-fault : goal.returns-in_err-weight-clause-fault
returns-in_err-weight-clause-fault = grind (arith, common_steps)
