use Rattle.master_simplex.specs.Phase.{IsDriven, IsReached}
use Rattle.master_simplex.proofs.helpers.drive_out.Given as goal

abbrev pub invariant-loop-row : goal.invariant-loop-row
invariant-loop-row l = record {
  driven : IsDriven l.t l.row;
  reached : IsReached l.initial.t l.t;
}
