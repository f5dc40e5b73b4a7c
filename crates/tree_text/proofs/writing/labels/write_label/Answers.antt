use Rattle.std.proofs.Common.{arith}
use Rattle.std.proofs.lemmas.Grind.{common_steps}
use Rattle.tree_text.proofs.writing.labels.write_label.Goals as goal

pub returns : goal.returns
returns = grind (arith, common_steps)
