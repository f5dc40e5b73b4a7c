use Rattle.std.proofs.Common.{◌≡◌, drop}
use Rattle.master_table.specs.Adding.{past_row}
use Rattle.master_table.specs.RowView.{limits_of}
use Rattle.master_table.proofs.adding.past_row.Given as goal

abbrev pub invariant-loop-i : goal.invariant-loop-i
invariant-loop-i l = past_row (limits_of l.caps) l.n l.i (drop l.i l.entries) ≡ past_row (limits_of l.caps) l.n 0 l.entries
