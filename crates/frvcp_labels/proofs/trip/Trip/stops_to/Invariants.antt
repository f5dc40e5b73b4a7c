use Rattle.std.proofs.Common.{reverse}
use Rattle.frvcp_labels.proofs.WaysBack.{IsTraced}
use Rattle.frvcp_labels.proofs.trip.Trip.stops_to.Given as goal

abbrev pub invariant-loop-parent : goal.invariant-loop-parent
invariant-loop-parent l = IsTraced l.self l.pool.labels l.home l.at l.level (reverse l.stops.items)

abbrev pub decreases-loop-parent : goal.decreases-loop-parent
decreases-loop-parent l = l.at
