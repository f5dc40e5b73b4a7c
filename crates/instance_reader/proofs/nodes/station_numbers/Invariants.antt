use Rattle.std.proofs.Common.{◌≡◌, [], map, take, drop}
use Rattle.instance_reader.specs.Nodes.{AreStationNumbers, wrong_node_in}
use Rattle.instance_reader.specs.Views.{station_view}
use Rattle.instance_reader.proofs.nodes.station_numbers.Given as goal

abbrev pub invariant-loop-index : goal.invariant-loop-index
invariant-loop-index l = record {
  value : AreStationNumbers (map station_view (take l.index l.stations)) l.nodes l.numbers.items;
  node : wrong_node_in l.nodes l.index (map station_view (take l.index l.stations)) (map station_view (drop l.index l.stations))
      ≡ wrong_node_in l.nodes 0 [] (map station_view l.stations);
}
