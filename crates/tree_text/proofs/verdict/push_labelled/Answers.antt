use Rattle.std.proofs.Common.{arith}
use Rattle.std.proofs.lemmas.Grind.{common_steps}
use Rattle.tree_text.proofs.verdict.push_labelled.Goals as goal

pub returns-clause-err : goal.returns-clause-err
returns-clause-err = grind (arith, common_steps)
