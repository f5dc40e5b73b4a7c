use Rattle.std.proofs.Common.{arith}
use Rattle.std.proofs.lemmas.Grind.{common_steps}
use Rattle.near_text.proofs.reading.labels.take_label.Goals as goal

pub from_points-requires : goal.from_points-requires
from_points-requires = grind (arith, common_steps)

pub returns-clause-kept : goal.returns-clause-kept
returns-clause-kept = grind (arith, common_steps)
