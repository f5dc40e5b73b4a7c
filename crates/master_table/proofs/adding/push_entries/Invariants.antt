use Rattle.std.proofs.Common.{◌≡◌, ◌≤◌, ◌<◌, ℕ, map, get_or, vec_len, vec_capacity, take, drop, ◌++◌, length}
use Rattle.master_table.specs.Adding.{extended_rows}
use Rattle.master_table.specs.RowView.{equation_of}
use Rattle.master_table.specs.declared.rows.Row.{Row}
use Rattle.master_table.proofs.adding.push_entries.Given as goal

abbrev pub invariant-loop-i : goal.invariant-loop-i
invariant-loop-i l = record {
  count : length l.rows.items ≡ length l.entries;
  last : l.i-end ≡ length l.entries;
  rows : map equation_of (take l.i l.rows.items) ++ extended_rows (map equation_of (drop l.i l.rows.items)) (drop l.i l.entries) ≡ extended_rows (map equation_of l.initial.rows.items) l.entries;
  room : (k : ℕ) (d : Row) → l.i ≤ k → k < length l.rows.items → vec_len (get_or l.rows.items k d).entries < vec_capacity (get_or l.rows.items k d).entries;
}
