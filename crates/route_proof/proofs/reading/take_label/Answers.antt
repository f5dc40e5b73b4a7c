use Rattle.std.proofs.Common.{arith}
use Rattle.std.proofs.lemmas.Grind.{common_steps}
use Rattle.route_proof.proofs.reading.take_label.Goals as goal

pub from_points-requires : goal.from_points-requires
from_points-requires = grind (arith, common_steps)
