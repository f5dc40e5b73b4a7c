use Rattle.std.proofs.Common.{◌≡◌, ◌++◌, map, drop, option_map, slice_index}
use Rattle.instance_reader.proofs.stations.by_node.Given as goal

abbrev pub invariant-loop-station : goal.invariant-loop-station
invariant-loop-station l =
    l.numbers.items ++ map (option_map (slice_index l.types)) (drop l.station-index l.stations) ≡ map (option_map (slice_index l.types)) l.stations
