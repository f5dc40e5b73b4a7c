use Rattle.std.proofs.Common.{◌≡◌, Some, length, refl, subst, arith}
use Rattle.std.proofs.lemmas.Grind.{common_steps}
use Rattle.std.specs.Prelude.{slice_get}
use Rattle.std.proofs.lemmas.Option.{slice_get_read}
use Rattle.near_proof.specs.Judging.{TellsFirst, judged}
use Rattle.near_proof.proofs.Told.{no_bad_step, step_told, steps_more}
use Rattle.near_proof.proofs.judge.Judge.bad_step.Goals as goal

pub returns-in-Some : goal.returns-in-Some
returns-in-Some c =
    let label = c.index-labels-number.result in
    let is : slice_get c.args.self.now.labels.now c.loop-number.number ≡ Some label = slice_get_read c.args.self.now.labels.now (length c.args.self.now.labels.now) c.loop-number.number label refl c.loop-number-test.true c.index-labels-number.is in
    step_told c.args.self.now.inst.now (judged c.args.self.now) c.loop-number.number label is c.in-Some.node (subst (TellsFirst c.args.self.now.inst.now (judged c.args.self.now) label) c.in-Some.is c.in_ok-node.ensures) c.loop-number.invariant

pub loop-number-preserved : goal.loop-number-preserved
loop-number-preserved c =
    let label = c.index-labels-number.result in
    let is : slice_get c.args.self.now.labels.now c.loop-number.number ≡ Some label = slice_get_read c.args.self.now.labels.now (length c.args.self.now.labels.now) c.loop-number.number label refl c.loop-number-test.true c.index-labels-number.is in
    steps_more c.args.self.now.inst.now (judged c.args.self.now) c.loop-number.number label is (subst (TellsFirst c.args.self.now.inst.now (judged c.args.self.now) label) c.in_default.is c.in_ok-node.ensures) c.loop-number.invariant

pub returns : goal.returns
returns c = no_bad_step c.args.self.now.inst.now (judged c.args.self.now) c.loop-number.number (omega (arith, c.loop-number-test.false)) c.loop-number.invariant

pub uncovered_node-requires-clause-label : goal.uncovered_node-requires-clause-label
uncovered_node-requires-clause-label = grind (arith, common_steps)
