use Rattle.std.proofs.Common.{arith}
use Rattle.std.proofs.lemmas.Grind.{common_steps}
use Rattle.piece_fn.proofs.charging.push_moved.Goals as goal

pub loop-index-preserved : goal.loop-index-preserved
loop-index-preserved = grind (arith, common_steps)

pub push_end-requires-clause-points : goal.push_end-requires-clause-points
push_end-requires-clause-points = grind (arith, common_steps)
