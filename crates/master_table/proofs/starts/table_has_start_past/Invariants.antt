use Rattle.master_table.proofs.StartSteps.{IsGoing}
use Rattle.master_table.proofs.starts.table_has_start_past.Given as goal

abbrev pub invariant-loop-col : goal.invariant-loop-col
invariant-loop-col l = IsGoing l.initial.t l.t l.entries l.col-index l.taken
