use Rattle.ev_model.specs.Network.{scaled_limit}
use Rattle.level_table.specs.Table.{IsTable, total_rank}
use Rattle.level_table.proofs.trip.Trip.settle.Given as goal

abbrev pub invariant-loop : goal.invariant-loop
invariant-loop l = IsTable l.self.network l.self.route l.entries

abbrev pub decreases-loop : goal.decreases-loop
decreases-loop l = total_rank (scaled_limit l.self.network) l.entries
