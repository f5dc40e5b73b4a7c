use Rattle.std.proofs.Common.{◌≡◌, ◌++◌, Some, map, drop}
use Rattle.serde_json.specs.View.{view}
use Rattle.instance_reader.specs.Contents.{numbers_in}
use Rattle.instance_reader.specs.Kinds.{not_wholes}
use Rattle.instance_reader.specs.Places.{item_of}
use Rattle.instance_reader.specs.Search.{first_along, look_along}
use Rattle.instance_reader.proofs.kinds.row_items.Given as goal

abbrev pub invariant-loop-index : goal.invariant-loop-index
invariant-loop-index l = record {
  kind : first_along (λ number d. not_wholes (item_of l.place number) (Some d)) l.index (map view (drop l.index l.items))
      ≡ look_along (λ at d. not_wholes at (Some d)) l.place (map view l.items);
  value : map (λ row. row.items) l.rows.items ++ map (λ d. numbers_in (Some d)) (map view (drop l.index l.items)) ≡ map (λ d. numbers_in (Some d)) (map view l.items);
}
