use Rattle.std.proofs.Common.{◌≡◌, ◌++◌, drop, map}
use Rattle.fleet_model.specs.Equations.{route}
use Rattle.master_table.specs.Adding.{new_entries}
use Rattle.master_table.specs.RowView.{equation_of}
use Rattle.master_table.proofs.adding.new_entries.Given as goal

abbrev pub invariant-loop-i : goal.invariant-loop-i
invariant-loop-i l = l.entries.items ++ new_entries l.n (route l.set l.cost) l.i (map equation_of (drop l.i l.rows)) ≡ new_entries l.n (route l.set l.cost) 0 (map equation_of l.rows)
