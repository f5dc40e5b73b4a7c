use Rattle.std.proofs.Common.{Some}
use Rattle.frvcp_labels.proofs.trip.Trip.searched.Goals as goal

pub first_home-requires-clause-spread : goal.first_home-requires-clause-spread
first_home-requires-clause-spread c = c.in_ok-pool.ensures.spread (Some c.args.bar)
