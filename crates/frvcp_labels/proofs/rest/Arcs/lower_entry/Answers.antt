use Rattle.std.proofs.Common.{arith}
use Rattle.std.proofs.lemmas.Grind.{common_steps}
use Rattle.frvcp_labels.proofs.rest.Arcs.lower_entry.Goals as goal

pub returns-clause-less : goal.returns-clause-less
returns-clause-less = grind (arith, common_steps)
