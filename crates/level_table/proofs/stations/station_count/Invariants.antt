use Rattle.std.proofs.Common.{◌≡◌, ◌≤◌, length}
use Rattle.level_table.specs.Stations.{stations_below}
use Rattle.level_table.proofs.stations.station_count.Given as goal

abbrev pub invariant-loop-node : goal.invariant-loop-node
invariant-loop-node l = (l.count ≡ length (stations_below l.inst l.node)) × (l.count ≤ l.node)
