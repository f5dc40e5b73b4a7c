use Rattle.std.proofs.Common.{◌≡◌, [], map, take, drop}
use Rattle.instance_reader.specs.Types.{names_of, repeated_in}
use Rattle.instance_reader.specs.Views.{curve_view, name_view}
use Rattle.instance_reader.proofs.types.number_names.Given as goal

abbrev pub invariant-loop-index : goal.invariant-loop-index
invariant-loop-index l = record {
  names : map (λ name. name_view name.now) l.names.keys ≡ names_of (map curve_view (take l.index l.curves));
  once : repeated_in l.index (names_of (map curve_view (take l.index l.curves))) (names_of (map curve_view (drop l.index l.curves)))
      ≡ repeated_in 0 [] (names_of (map curve_view l.curves));
}
