use Rattle.std.proofs.Common.{◌≡◌, ◌+◌, ◌-◌, ◌*◌, ◌≤◌, length}
use Rattle.level_table.specs.Stations.{stations}
use Rattle.level_table.specs.Table.{IsTable}
use Rattle.level_table.proofs.trip.Trip.settle_layers.Given as goal

abbrev pub invariant-loop-passed : goal.invariant-loop-passed
invariant-loop-passed l = record {
  table : IsTable l.self.network l.self.route l.entries;
  passed : l.passed ≤ length l.self.route - 1;
  layer : l.layer ≡ (length (stations l.self.network) + 1) * (l.self.network.capacity + 1) * 2;
}
