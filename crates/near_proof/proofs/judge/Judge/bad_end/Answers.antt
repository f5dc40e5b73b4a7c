use Rattle.std.proofs.Common.{◌≡◌, Some, length, refl, subst, sym, arith}
use Rattle.std.specs.Prelude.{slice_get}
use Rattle.std.proofs.lemmas.Option.{slice_get_read}
use Rattle.near_proof.specs.declared.proof.NearLabel.{NearLabel}
use Rattle.near_proof.specs.Ranges.{NearLabelFits}
use Rattle.near_proof.proofs.Fits.{label_within_full}
use Rattle.near_proof.specs.Judging.{TellsHome, judged}
use Rattle.near_proof.proofs.Told.{end_told, ends_more, no_bad_end}
use Rattle.near_proof.proofs.judge.Judge.bad_end.Goals as goal

pub earns_at_home-requires-clause-levels : goal.earns_at_home-requires-clause-levels
earns_at_home-requires-clause-levels c =
    label_within_full c.args.self.now.inst.now c.index-labels-number.result
    (subst (λ (l : NearLabel). NearLabelFits c.args.self.now.inst.now l) (sym c.index-labels-number.is) (c.requires.labels c.loop-number.number c.index-labels-number.result c.loop-number-test.true))

pub returns-then-branch : goal.returns-then-branch
returns-then-branch c =
    let label = c.index-labels-number.result in
    let is : slice_get c.args.self.now.labels.now c.loop-number.number ≡ Some label = slice_get_read c.args.self.now.labels.now (length c.args.self.now.labels.now) c.loop-number.number label refl c.loop-number-test.true c.index-labels-number.is in
    end_told c.args.self.now.inst.now (judged c.args.self.now) c.loop-number.number label is (subst (TellsHome c.args.self.now.inst.now c.args.self.now.terms.weight label) c.if-branch.true c.in_ok-earns_at_home.ensures) c.loop-number.invariant

pub loop-number-preserved : goal.loop-number-preserved
loop-number-preserved c =
    let label = c.index-labels-number.result in
    let is : slice_get c.args.self.now.labels.now c.loop-number.number ≡ Some label = slice_get_read c.args.self.now.labels.now (length c.args.self.now.labels.now) c.loop-number.number label refl c.loop-number-test.true c.index-labels-number.is in
    ends_more c.args.self.now.inst.now (judged c.args.self.now) c.loop-number.number label is (subst (TellsHome c.args.self.now.inst.now c.args.self.now.terms.weight label) c.if-branch.false c.in_ok-earns_at_home.ensures) c.loop-number.invariant

pub returns : goal.returns
returns c = no_bad_end c.args.self.now.inst.now (judged c.args.self.now) c.loop-number.number (omega (arith, c.loop-number-test.false)) c.loop-number.invariant
