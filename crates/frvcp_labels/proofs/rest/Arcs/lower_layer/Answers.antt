use Rattle.std.proofs.Common.{arith}
use Rattle.std.proofs.lemmas.Grind.{common_steps}
use Rattle.frvcp_labels.proofs.rest.Arcs.lower_layer.Goals as goal

pub returns-clause-steady : goal.returns-clause-steady
returns-clause-steady = grind (arith, common_steps)
