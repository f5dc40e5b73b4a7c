use Rattle.frvcp_labels.proofs.LiveStates.{AreListed}
use Rattle.frvcp_labels.proofs.trip.Trip.live_states.Given as goal

abbrev pub invariant-loop-i : goal.invariant-loop-i
invariant-loop-i l = AreListed l.self l.pool.labels l.i l.states.items
