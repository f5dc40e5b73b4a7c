use Rattle.level_table.specs.Table.{rank_at}
use Rattle.level_table.specs.Places.{index_of}
use Rattle.level_table.proofs.Walked.{IsWalked}
use Rattle.level_table.proofs.trip.Trip.walk.Given as goal

abbrev pub invariant-loop-place : goal.invariant-loop-place
invariant-loop-place l = IsWalked l.self.network l.self.route l.fn.start.level l.entries l.place l.stop l.stops.items

-- home comes nearer
abbrev pub decreases-loop-place : goal.decreases-loop-place
decreases-loop-place l = rank_at l.self.network l.entries (index_of l.self.network l.place)
