use Rattle.std.proofs.Common.{◌≡◌, ◌<◌, ◌≤◌, false, true}
use Rattle.ev_model.specs.Network.{scaled_limit}
use Rattle.level_table.specs.Table.{IsClosed, IsTable, total_rank}
use Rattle.level_table.proofs.trip.Trip.sweep.Given as goal

abbrev pub invariant-loop-index : goal.invariant-loop-index
invariant-loop-index l = record {
  table : IsTable l.self.network l.self.route l.entries;
  end : l.index ≤ l.end;
  closed : l.changed ≡ false → IsClosed l.self.network l.self.route l.entries l.index l.end;
  total : total_rank (scaled_limit l.self.network) l.entries ≤ total_rank (scaled_limit l.self.network) l.initial.entries;
  falls : l.changed ≡ true → total_rank (scaled_limit l.self.network) l.entries < total_rank (scaled_limit l.self.network) l.initial.entries;
}
