use Rattle.std.specs.Prelude.{◌≤◌}
use Rattle.master_table.specs.ShareWeight.{IsRowsWeight}
use Rattle.master_table.proofs.over.share_weight.Given as goal

abbrev pub invariant-loop-row : goal.invariant-loop-row
invariant-loop-row l = record {
  weight : IsRowsWeight l.t l.row l.over;
  within : l.over ≤ l.t.caps.body;
}
