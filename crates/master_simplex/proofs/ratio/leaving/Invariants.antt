use Rattle.master_simplex.specs.Phase.{IsLeast}
use Rattle.master_simplex.proofs.ratio.leaving.Given as goal

abbrev pub invariant-loop-i : goal.invariant-loop-i
invariant-loop-i l = IsLeast l.t l.places l.col l.i l.best
