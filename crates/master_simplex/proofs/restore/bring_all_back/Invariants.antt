use Rattle.master_simplex.specs.Phase.{AreBasic, IsReached}
use Rattle.master_simplex.proofs.restore.bring_all_back.Given as goal

abbrev pub invariant-loop-helper : goal.invariant-loop-helper
invariant-loop-helper l = record {
  basic : AreBasic l.t l.helper;
  reached : IsReached l.initial.t l.t;
}
