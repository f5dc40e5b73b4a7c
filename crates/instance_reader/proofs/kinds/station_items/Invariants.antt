use Rattle.std.proofs.Common.{◌≡◌, ◌++◌, map, drop}
use Rattle.serde_json.specs.View.{view}
use Rattle.instance_reader.specs.Contents.{station_in}
use Rattle.instance_reader.specs.Kinds.{no_station}
use Rattle.instance_reader.specs.Places.{item_of}
use Rattle.instance_reader.specs.Search.{first_along, look_along}
use Rattle.instance_reader.specs.Views.{station_view}
use Rattle.instance_reader.proofs.kinds.station_items.Given as goal

abbrev pub invariant-loop-index : goal.invariant-loop-index
invariant-loop-index l = record {
  kind : first_along (λ number. no_station (item_of l.place number)) l.index (map view (drop l.index l.items))
      ≡ look_along no_station l.place (map view l.items);
  value : map station_view l.stations.items ++ map station_in (map view (drop l.index l.items)) ≡ map station_in (map view l.items);
}
