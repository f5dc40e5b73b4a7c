use Rattle.std.proofs.Common.{◌≡◌, map}
use Rattle.std.specs.List.{range_with_len}
use Rattle.master_table.specs.Fresh.{fresh_row}
use Rattle.master_table.specs.RowView.{equation_of}
use Rattle.master_table.proofs.fresh.fresh_rows.Given as goal

abbrev pub invariant-loop-i : goal.invariant-loop-i
invariant-loop-i l = map equation_of l.rows.items ≡ map (fresh_row l.n) (range_with_len 0 l.i)
