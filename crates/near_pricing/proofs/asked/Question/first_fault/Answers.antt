use Rattle.std.proofs.Common.{arith}
use Rattle.std.proofs.lemmas.Grind.{common_steps}
use Rattle.near_pricing.proofs.asked.Question.first_fault.Goals as goal

pub first_fault-requires-clause-labels : goal.first_fault-requires-clause-labels
first_fault-requires-clause-labels = grind (arith, common_steps)
