use Rattle.std.proofs.Common.{◌≡◌, ◌++◌, map, drop}
use Rattle.serde_json.specs.View.{view}
use Rattle.instance_reader.specs.Contents.{curve_in}
use Rattle.instance_reader.specs.Kinds.{no_curve}
use Rattle.instance_reader.specs.Places.{item_of}
use Rattle.instance_reader.specs.Search.{first_along, look_along}
use Rattle.instance_reader.specs.Views.{curve_view}
use Rattle.instance_reader.proofs.kinds.curve_items.Given as goal

abbrev pub invariant-loop-index : goal.invariant-loop-index
invariant-loop-index l = record {
  kind : first_along (λ number. no_curve (item_of l.place number)) l.index (map view (drop l.index l.items))
      ≡ look_along no_curve l.place (map view l.items);
  value : map curve_view l.curves.items ++ map curve_in (map view (drop l.index l.items)) ≡ map curve_in (map view l.items);
}
