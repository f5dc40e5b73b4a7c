use Rattle.std.proofs.Common.{arith}
use Rattle.std.proofs.lemmas.Grind.{common_steps}
use Rattle.closed_lists.proofs.question.Question.entries.Goals as goal

pub returns-clause-are : goal.returns-clause-are
returns-clause-are = grind (arith, common_steps)
