use Rattle.std.proofs.Common.{◌≡◌, ◌++◌, map, drop}
use Rattle.instance_reader.specs.Search.{first_along}
use Rattle.instance_reader.specs.Types.{number_among, unlisted}
use Rattle.instance_reader.specs.Views.{names_in, station_view}
use Rattle.instance_reader.proofs.types.type_numbers.Given as goal

abbrev pub invariant-loop-index : goal.invariant-loop-index
invariant-loop-index l = record {
  listed : first_along (unlisted (names_in l.names.keys)) l.index (map station_view (drop l.index l.stations))
      ≡ first_along (unlisted (names_in l.names.keys)) 0 (map station_view l.stations);
  value : l.numbers.items ++ map (λ s. number_among (names_in l.names.keys) s.type_name) (map station_view (drop l.index l.stations))
      ≡ map (λ s. number_among (names_in l.names.keys) s.type_name) (map station_view l.stations);
}
