use Rattle.std.proofs.Common.{◌≡◌, ◌<◌, ℕ, map, length, get_or, vec_len, vec_capacity}
use Rattle.master_table.specs.RowView.{equation_of}
use Rattle.master_table.specs.declared.rows.Row.{Row}
use Rattle.master_table.proofs.adding.make_room.Given as goal

abbrev pub invariant-loop-i : goal.invariant-loop-i
invariant-loop-i l = record {
  last : l.i-end ≡ length l.rows.items;
  same : map equation_of l.rows.items ≡ map equation_of l.initial.rows.items;
  room : (k : ℕ) (d : Row) → k < l.i → vec_len (get_or l.rows.items k d).entries < vec_capacity (get_or l.rows.items k d).entries;
}
