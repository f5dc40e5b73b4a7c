use Rattle.std.proofs.Common.{◌≡◌, [], None, map, option_map, slice_index, rules, arith}
use Rattle.std.proofs.lemmas.Grind.{elements, common_steps}
use Rattle.std.proofs.lemmas.List.{length-map}
use Rattle.instance_reader.proofs.CheckedLemmas.{neither}
use Rattle.instance_reader.proofs.StationsLemmas.{AreCurveNumbers-by_node}
use Rattle.instance_reader.specs.Contents.{nodes_of}
use Rattle.instance_reader.specs.Nodes.{AreStationNumbers, first_wrong_node}
use Rattle.instance_reader.specs.Search.{first_along}
use Rattle.instance_reader.specs.Types.{names_of, repeated_in, type_number, unlisted, wrong_type_in, first_wrong_type}
use Rattle.instance_reader.specs.Views.{contents_view, station_view}
use Rattle.instance_reader.proofs.stations.curve_numbers.Goals as goal

pub returns-in-Ok-by_node-clause-value : goal.returns-in-Ok-by_node-clause-value
returns-in-Ok-by_node-clause-value c =
    let contents = contents_view c.args.fields.now in
    let count : c.len.result ≡ nodes_of contents = rw length-map (search rules) in
    let are : AreStationNumbers (map station_view c.args.fields.now.stations.items) c.len.result c.in-Ok.stations.items = search rules in
    let types : c.in-Ok-station_types.types.items ≡ map (type_number contents.curves) contents.stations = search rules in
    let right : wrong_type_in contents.curves contents.stations ≡ None = search rules in
    let second = neither (repeated_in 0 [] (names_of contents.curves)) _ right in
    let listed = neither (first_along (unlisted (names_of contents.curves)) 0 contents.stations) None second.1 in
    let numbers : c.in-Ok-by_node.numbers.items ≡ map (option_map (slice_index c.in-Ok-station_types.types.items)) c.in-Ok.stations.items = search rules in
    AreCurveNumbers-by_node contents c.in-Ok.stations.items c.in-Ok-by_node.numbers.items c.in-Ok-station_types.types.items
    (rw count at are) types listed.0 numbers

pub by_node-requires : goal.by_node-requires
unfolding first_wrong_node first_wrong_type
by_node-requires = grind (arith, elements)

pub returns-in-Err-At-clause-err : goal.returns-in-Err-At-clause-err
unfolding first_wrong_node first_wrong_type
returns-in-Err-At-clause-err = grind (arith, common_steps)

pub returns-in-Err-At-station_types-clause-err : goal.returns-in-Err-At-station_types-clause-err
unfolding first_wrong_node first_wrong_type
returns-in-Err-At-station_types-clause-err = grind (arith, common_steps)

pub returns-in-Ok-by_node-clause-good : goal.returns-in-Ok-by_node-clause-good
unfolding first_wrong_node first_wrong_type
returns-in-Ok-by_node-clause-good = grind (arith, common_steps)
