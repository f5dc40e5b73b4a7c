use Rattle.std.proofs.Common.{arith}
use Rattle.std.proofs.lemmas.Grind.{common_steps}
use Rattle.mixed_text.proofs.writing.root.write_each_share.Goals as goal

pub loop-share-preserved : goal.loop-share-preserved
loop-share-preserved = grind (arith, common_steps)

pub returns : goal.returns
returns = grind (arith, common_steps)
