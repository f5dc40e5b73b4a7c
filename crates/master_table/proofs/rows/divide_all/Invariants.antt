use Rattle.std.proofs.Common.{◌≡◌, drop, take, ◌++◌}
use Rattle.master_table.specs.Pivoting.{quotients}
use Rattle.master_table.proofs.rows.divide_all.Given as goal

abbrev pub invariant-loop-i : goal.invariant-loop-i
invariant-loop-i l = take l.i l.xs.items ++ quotients l.d (drop l.i l.xs.items) ≡ quotients l.d l.initial.xs.items
