use Rattle.std.proofs.Common.{arith}
use Rattle.std.proofs.lemmas.Grind.{common_steps}
use Rattle.certificate_parts.proofs.writing.label.write_points.Goals as goal

pub returns : goal.returns
returns = grind (arith, common_steps)

pub loop-point-preserved : goal.loop-point-preserved
loop-point-preserved = grind (arith, common_steps)
