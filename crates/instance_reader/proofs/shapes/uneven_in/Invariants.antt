use Rattle.std.proofs.Common.{◌≡◌, map, drop}
use Rattle.instance_reader.specs.Places.{item_of}
use Rattle.instance_reader.specs.Search.{first_along, look_along}
use Rattle.instance_reader.specs.Shapes.{uneven}
use Rattle.instance_reader.specs.Views.{curve_view}
use Rattle.instance_reader.proofs.shapes.uneven_in.Given as goal

abbrev pub invariant-loop-index : goal.invariant-loop-index
invariant-loop-index l =
    first_along (λ number. uneven (item_of l.place number)) l.index (map curve_view (drop l.index l.curves)) ≡ look_along uneven l.place (map curve_view l.curves)
