use Rattle.std.proofs.Common.{arith}
use Rattle.std.proofs.lemmas.Grind.{common_steps}
use Rattle.call_words.proofs.matches.gives_own.Goals as goal

pub returns-then-is_some : goal.returns-then-is_some
returns-then-is_some = grind (arith, common_steps)
