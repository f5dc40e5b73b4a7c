use Rattle.std.proofs.Common.{arith}
use Rattle.std.proofs.lemmas.Grind.{common_steps}
use Rattle.certificate_parts.proofs.writing.label.nodes_in.Goals as goal

pub loop-number-preserved : goal.loop-number-preserved
loop-number-preserved = grind (arith, common_steps)

pub returns : goal.returns
returns = grind (arith, common_steps)
