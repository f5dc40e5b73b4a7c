use Rattle.std.proofs.Common.{arith}
use Rattle.std.proofs.lemmas.Grind.{common_steps}
use Rattle.frvcp_labels.proofs.bounds.layer_to.Goals as goal

pub returns : goal.returns
returns = grind (arith, common_steps)
