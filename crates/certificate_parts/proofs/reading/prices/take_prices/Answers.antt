use Rattle.std.proofs.Common.{arith}
use Rattle.std.proofs.lemmas.Grind.{common_steps}
use Rattle.certificate_parts.proofs.reading.prices.take_prices.Goals as goal

pub returns-in_err-word-2-clause-fault : goal.returns-in_err-word-2-clause-fault
returns-in_err-word-2-clause-fault = grind (arith, common_steps)
