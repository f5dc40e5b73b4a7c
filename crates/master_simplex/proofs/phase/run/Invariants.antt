use Rattle.std.proofs.Common.{◌+◌, ◌*◌, cond, IsFalse}
use Rattle.master_simplex.specs.Phase.{AreHelpersIdle, HasNoGain, IsPhase, IsReached, gain_height}
use Rattle.master_simplex.proofs.phase.run.Given as goal

abbrev pub invariant-loop-goes_on : goal.invariant-loop-goes_on
invariant-loop-goes_on l = record {
  phase : IsPhase l.places l.t;
  reached : IsReached l.initial.t l.t;
  idle : AreHelpersIdle l.initial.t → AreHelpersIdle l.t;
  end : IsFalse l.goes_on → HasNoGain l.goal l.t;
}

abbrev pub decreases-loop-goes_on : goal.decreases-loop-goes_on
decreases-loop-goes_on l = 2 * gain_height l.goal l.places l.t + cond l.goes_on 1 0
