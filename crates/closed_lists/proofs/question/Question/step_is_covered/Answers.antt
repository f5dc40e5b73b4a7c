use Rattle.std.proofs.Common.{arith}
use Rattle.std.proofs.lemmas.Grind.{common_steps}
use Rattle.closed_lists.proofs.question.Question.step_is_covered.Goals as goal

pub customer_is_covered-requires-clause-paid : goal.customer_is_covered-requires-clause-paid
customer_is_covered-requires-clause-paid = grind (arith, common_steps)

pub returns-in-None : goal.returns-in-None
returns-in-None = grind (arith, common_steps)

pub customer_number-requires : goal.customer_number-requires
customer_number-requires = grind (arith, common_steps)

pub customer_is_covered-requires-clause-listed : goal.customer_is_covered-requires-clause-listed
customer_is_covered-requires-clause-listed = grind (arith, common_steps)
