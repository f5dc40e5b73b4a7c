use Rattle.std.proofs.Common.{◌≡◌, map, drop}
use Rattle.instance_reader.specs.Places.{item_of}
use Rattle.instance_reader.specs.Search.{first_along, look_along}
use Rattle.instance_reader.specs.Sizes.{large_in_curve}
use Rattle.instance_reader.specs.Views.{curve_view}
use Rattle.instance_reader.proofs.sizes.large_in_curves.Given as goal

abbrev pub invariant-loop-index : goal.invariant-loop-index
invariant-loop-index l =
    first_along (λ number. large_in_curve (item_of l.place number)) l.index (map curve_view (drop l.index l.curves)) ≡ look_along large_in_curve l.place (map curve_view l.curves)
