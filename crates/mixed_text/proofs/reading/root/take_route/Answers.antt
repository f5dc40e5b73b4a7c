use Rattle.std.proofs.Common.{arith}
use Rattle.std.proofs.lemmas.Grind.{elements}
use Rattle.mixed_text.proofs.reading.root.take_route.Goals as goal

pub returns-in_err-plan-clause-fault : goal.returns-in_err-plan-clause-fault
returns-in_err-plan-clause-fault = grind (arith, elements)
