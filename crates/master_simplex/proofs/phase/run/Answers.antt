use Rattle.std.proofs.Common.{rules}
use Rattle.master_simplex.proofs.Tables.{then_reached}
use Rattle.master_simplex.proofs.phase.run.Goals as goal

pub returns-in_err-goes_on-clause-reached : goal.returns-in_err-goes_on-clause-reached
returns-in_err-goes_on-clause-reached c = then_reached c.args.t.now c.loop-goes_on.t c.step.new.t c.loop-goes_on.invariant.reached c.step.ensures.reached

pub loop-goes_on-preserved : goal.loop-goes_on-preserved
loop-goes_on-preserved c = record {
  phase = c.step.ensures.phase;
  reached = then_reached c.args.t.now c.loop-goes_on.t c.step.new.t c.loop-goes_on.invariant.reached c.step.ensures.reached;
  idle = λ h. c.step.ensures.idle (c.loop-goes_on.invariant.idle h);
  end = search rules;
}
