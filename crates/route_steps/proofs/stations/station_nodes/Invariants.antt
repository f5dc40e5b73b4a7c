use Rattle.std.proofs.Common.{◌≡◌}
use Rattle.route_steps.proofs.StationList.{stations_below}
use Rattle.route_steps.proofs.stations.station_nodes.Given as goal

abbrev pub invariant-loop-node : goal.invariant-loop-node
invariant-loop-node l = l.nodes.items ≡ stations_below l.inst l.node
