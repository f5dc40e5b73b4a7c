use Rattle.std.proofs.Common.{◌≡◌, map, drop}
use Rattle.instance_reader.specs.Places.{item_of}
use Rattle.instance_reader.specs.Search.{first_along}
use Rattle.instance_reader.specs.Sizes.{large_in, large_in_rows}
use Rattle.instance_reader.proofs.sizes.large_in_rows.Given as goal

abbrev pub invariant-loop-index : goal.invariant-loop-index
invariant-loop-index l =
    first_along (λ number. large_in (item_of l.place number)) l.index (map (λ row. row.items) (drop l.index l.rows)) ≡ large_in_rows l.place (map (λ row. row.items) l.rows)
