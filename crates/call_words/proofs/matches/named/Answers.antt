use Rattle.std.proofs.Common.{arith}
use Rattle.std.proofs.lemmas.Grind.{common_steps}
use Rattle.call_words.proofs.matches.named.Goals as goal

pub loop-word-preserved : goal.loop-word-preserved
loop-word-preserved = grind (arith, common_steps)

pub returns : goal.returns
returns = grind (arith, common_steps)
