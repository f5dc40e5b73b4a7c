use Rattle.std.proofs.Common.{◌≡◌}
use Rattle.level_table.specs.Stations.{stations_below}
use Rattle.level_table.proofs.stations.stations_of.Given as goal

abbrev pub invariant-loop-node : goal.invariant-loop-node
invariant-loop-node l = l.stations.items ≡ stations_below l.inst l.node
