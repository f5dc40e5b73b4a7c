use Rattle.std.proofs.Common.{Option, arith, subst}
use Rattle.route_proof.specs.Tellings.{TellsFirst}
use Rattle.route_proof.specs.declared.steps.Missed.{Missed}
use Rattle.route_proof.proofs.Faults.{first_step, no_steps, steps_more}
use Rattle.route_proof.proofs.judged.Judged.first_step.Goals as goal

pub returns-in-Some : goal.returns-in-Some
returns-in-Some c =
    first_step c.args.self.now c.loop-label.label c.label.result.now c.label.ensures.value c.in-Some.field-0 (subst (λ (o : Option Missed). TellsFirst c.args.self.now c.label.result.now o) c.in-Some.is c.in_ok-node.ensures) c.loop-label.invariant

pub loop-label-preserved : goal.loop-label-preserved
loop-label-preserved c =
    steps_more c.args.self.now c.loop-label.label c.label.result.now c.label.ensures.value (subst (λ (o : Option Missed). TellsFirst c.args.self.now c.label.result.now o) c.in_default.is c.in_ok-node.ensures) c.loop-label.invariant

pub returns : goal.returns
returns c = no_steps c.args.self.now c.loop-label.label (omega (arith, c.loop-label-test.false, c.count-label-end.ensures)) c.loop-label.invariant
