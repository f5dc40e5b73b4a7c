use Rattle.std.proofs.Common.{arith, subst}
use Rattle.route_proof.specs.Tellings.{TellsHome}
use Rattle.route_proof.proofs.Faults.{ends_more, no_ends}
use Rattle.route_proof.proofs.judged.Judged.first_end.Goals as goal

pub loop-label-preserved : goal.loop-label-preserved
loop-label-preserved c =
    ends_more c.args.self.now c.loop-label.label c.label.result.now c.label.ensures.value (subst (λ b. TellsHome c.args.self.now c.label.result.now b) c.if-branch.false c.in_ok-ends_below.ensures) c.loop-label.invariant

pub returns : goal.returns
returns c = no_ends c.args.self.now c.loop-label.label (omega (arith, c.loop-label-test.false, c.count-label-end.ensures)) c.loop-label.invariant
