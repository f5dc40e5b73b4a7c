use Rattle.std.proofs.Common.{◌≡◌, drop}
use Rattle.master_table.specs.FirstPast.{past_from}
use Rattle.master_table.proofs.rows.first_past.Given as goal

abbrev pub invariant-loop-i : goal.invariant-loop-i
invariant-loop-i l = past_from l.cap l.i (drop l.i l.xs) ≡ past_from l.cap 0 l.xs
