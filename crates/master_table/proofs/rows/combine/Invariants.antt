use Rattle.std.proofs.Common.{◌≡◌, drop, ◌++◌}
use Rattle.fleet_model.specs.Equations.{combined}
use Rattle.master_table.proofs.rows.combine.Given as goal

abbrev pub invariant-loop-i : goal.invariant-loop-i
invariant-loop-i l = l.out.items ++ combined l.own l.by (drop l.i l.row) (drop l.i l.turned) ≡ combined l.own l.by l.row l.turned
