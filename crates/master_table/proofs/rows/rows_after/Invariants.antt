use Rattle.std.proofs.Common.{◌≡◌, drop, ◌++◌, map}
use Rattle.master_table.specs.Pivoting.{rows_after}
use Rattle.master_table.specs.FirstPast.{past_of}
use Rattle.master_table.specs.RowView.{equation_of, limits_of}
use Rattle.master_table.proofs.rows.rows_after.Given as goal

abbrev pub invariant-loop-i : goal.invariant-loop-i
invariant-loop-i l =
    (map equation_of l.out.items ++ rows_after l.n l.r l.col (equation_of l.turned) l.i (map equation_of (drop l.i l.rows)) ≡ rows_after l.n l.r l.col (equation_of l.turned) 0 (map equation_of l.rows))
    × (past_of (limits_of l.caps) l.n l.i (rows_after l.n l.r l.col (equation_of l.turned) l.i (map equation_of (drop l.i l.rows))) ≡ past_of (limits_of l.caps) l.n 0 (rows_after l.n l.r l.col (equation_of l.turned) 0 (map equation_of l.rows)))
