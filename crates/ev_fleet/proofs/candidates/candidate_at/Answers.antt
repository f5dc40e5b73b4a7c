use Rattle.std.proofs.Common.{arith}
use Rattle.std.proofs.lemmas.Grind.{common_steps}
use Rattle.ev_fleet.proofs.candidates.candidate_at.Goals as goal

pub offset_bounds-order-node-index : goal.offset_bounds-order-node-index
offset_bounds-order-node-index = grind (arith, common_steps)
