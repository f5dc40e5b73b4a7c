use Rattle.master_simplex.specs.Phase.{IsGaining}
use Rattle.master_simplex.proofs.phase.entering.Given as goal

abbrev pub invariant-loop-col : goal.invariant-loop-col
invariant-loop-col l = IsGaining l.goal l.t l.col l.best
