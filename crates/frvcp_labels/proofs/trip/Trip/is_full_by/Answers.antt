use Rattle.std.proofs.Common.{arith}
use Rattle.std.proofs.lemmas.Grind.{elements}
use Rattle.frvcp_labels.proofs.trip.Trip.is_full_by.Goals as goal

pub returns : goal.returns
returns = grind (arith, elements)
