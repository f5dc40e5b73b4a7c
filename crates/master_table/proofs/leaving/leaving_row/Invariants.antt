use Rattle.master_table.specs.Leaving.{IsLastToGo}
use Rattle.master_table.proofs.leaving.leaving_row.Given as goal

abbrev pub invariant-loop-row : goal.invariant-loop-row
invariant-loop-row l = IsLastToGo l.t l.taken l.col l.row l.last
