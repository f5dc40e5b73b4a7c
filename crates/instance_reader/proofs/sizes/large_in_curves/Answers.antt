use Rattle.std.proofs.Common.{arith}
use Rattle.std.proofs.lemmas.Grind.{common_steps}
use Rattle.instance_reader.proofs.sizes.large_in_curves.Goals as goal

pub returns-then-is_some : goal.returns-then-is_some
returns-then-is_some = grind (arith, common_steps)

pub loop-index-preserved : goal.loop-index-preserved
loop-index-preserved = grind (arith, common_steps)
