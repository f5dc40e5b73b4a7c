use Rattle.std.proofs.Common.{arith}
use Rattle.std.proofs.lemmas.Grind.{common_steps}
use Rattle.command_line.proofs.mixed.mixed_words.Goals as goal

pub returns-in_default : goal.returns-in_default
returns-in_default = grind (arith, common_steps)

pub returns : goal.returns
returns = grind (arith, common_steps)

pub returns-then-not-gives_only : goal.returns-then-not-gives_only
returns-then-not-gives_only = grind (arith, common_steps)
