use Rattle.std.proofs.Common.{arith}
use Rattle.std.proofs.lemmas.Grind.{common_steps}
use Rattle.call_words.proofs.command.without_arguments.Goals as goal

pub returns : goal.returns
returns = grind (arith, common_steps)
