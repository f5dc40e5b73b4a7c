use Rattle.std.proofs.Common.{◌≡◌, map}
use Rattle.std.specs.List.{range_with_len}
use Rattle.master_table.specs.Fresh.{fresh_entry}
use Rattle.master_table.proofs.fresh.fresh_row.Given as goal

abbrev pub invariant-loop-c : goal.invariant-loop-c
invariant-loop-c l = l.entries.items ≡ map (fresh_entry l.n l.i) (range_with_len 0 l.c)
