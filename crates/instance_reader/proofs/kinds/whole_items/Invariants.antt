use Rattle.std.proofs.Common.{◌≡◌, ◌++◌, Some, map, drop}
use Rattle.serde_json.specs.View.{view}
use Rattle.instance_reader.specs.Contents.{number_in}
use Rattle.instance_reader.specs.Kinds.{not_whole}
use Rattle.instance_reader.specs.Places.{item_of}
use Rattle.instance_reader.specs.Search.{first_along, look_along}
use Rattle.instance_reader.proofs.kinds.whole_items.Given as goal

abbrev pub invariant-loop-index : goal.invariant-loop-index
invariant-loop-index l = record {
  kind : first_along (λ number d. not_whole (item_of l.place number) (Some d)) l.index (map view (drop l.index l.items))
      ≡ look_along (λ at d. not_whole at (Some d)) l.place (map view l.items);
  value : l.numbers.items ++ map (λ d. number_in (Some d)) (map view (drop l.index l.items)) ≡ map (λ d. number_in (Some d)) (map view l.items);
}
