use Rattle.std.proofs.Common.{◌≡◌, ◌++◌, map, drop}
use Rattle.instance_reader.specs.Meaning.{plug_time_of_number}
use Rattle.instance_reader.specs.Views.{curve_view}
use Rattle.instance_reader.proofs.stations.plug_times.Given as goal

abbrev pub invariant-loop-number : goal.invariant-loop-number
invariant-loop-number l =
    l.times.items ++ map (plug_time_of_number (map curve_view l.curves)) (drop l.number-index l.curve_numbers)
    ≡ map (plug_time_of_number (map curve_view l.curves)) l.curve_numbers
