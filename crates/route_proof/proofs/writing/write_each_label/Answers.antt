use Rattle.std.proofs.Common.{arith}
use Rattle.std.proofs.lemmas.Grind.{common_steps}
use Rattle.route_proof.proofs.writing.write_each_label.Goals as goal

pub returns : goal.returns
returns = grind (arith, common_steps)

pub loop-label-preserved : goal.loop-label-preserved
loop-label-preserved = grind (arith, common_steps)
