use Rattle.std.proofs.Common.{arith}
use Rattle.std.proofs.lemmas.Grind.{common_steps, elements}
use Rattle.frvcp_labels.proofs.trip.Trip.bar.Goals as goal

pub returns : goal.returns
returns = grind (arith, common_steps)

pub value-requires : goal.value-requires
value-requires = grind (arith, elements)
