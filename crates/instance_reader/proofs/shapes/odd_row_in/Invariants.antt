use Rattle.std.proofs.Common.{◌≡◌, map, drop}
use Rattle.instance_reader.specs.Places.{item_of}
use Rattle.instance_reader.specs.Search.{first_along}
use Rattle.instance_reader.specs.Shapes.{odd_row, odd_row_in}
use Rattle.instance_reader.proofs.shapes.odd_row_in.Given as goal

abbrev pub invariant-loop-index : goal.invariant-loop-index
invariant-loop-index l =
    first_along (λ number. odd_row l.nodes (item_of l.place number)) l.index (map (λ row. row.items) (drop l.index l.rows)) ≡ odd_row_in l.nodes l.place (map (λ row. row.items) l.rows)
