use Rattle.std.proofs.Common.{◌≡◌, ◌<◌, List, length, subst, sym, ap, arith}
use Rattle.std.proofs.lemmas.List.{length-map}
use Rattle.std.specs.Prelude.{slice_index_or}
use Rattle.near_tree.specs.Judging.{TellsFirst}
use Rattle.near_tree.specs.Preorder.{leaf_label}
use Rattle.near_tree.specs.Ranges.{SectionLabelFits}
use Rattle.near_tree.specs.Sites.{leaf_of}
use Rattle.near_tree.specs.declared.proof.SectionLabel.{SectionLabel}
use Rattle.near_tree.proofs.Told.{label_at, no_bad_step, step_told, steps_more}
use Rattle.near_tree.proofs.judge.Judge.bad_step.Goals as goal

pub returns-in-Some : goal.returns-in-Some
returns-in-Some c =
    let g = c.args.self.now.site.inst.now in
    let f = leaf_of c.args.self.now.site in
    let label = c.index-labels-number.result in
    let n = c.loop-number.number in
    let less : n < length c.args.self.now.site.section.now.labels = subst (λ (ls : List SectionLabel). c.loop-number.number < length ls) c.as_slice-labels.ensures c.loop-number-test.true in
    let is : label ≡ slice_index_or c.args.self.now.site.section.now.labels n label = subst (λ (ls : List SectionLabel). c.index-labels-number.result ≡ slice_index_or ls c.loop-number.number c.index-labels-number.result) c.as_slice-labels.ensures c.index-labels-number.is in
    step_told g f n (leaf_label label) (label_at c.args.self.now.site.section.now.labels n label less is) c.in-Some.node (subst (TellsFirst c.args.self.now.site.inst.now (leaf_of c.args.self.now.site) (leaf_label c.index-labels-number.result)) c.in-Some.is c.in_ok-node.ensures) c.loop-number.invariant

pub loop-number-preserved : goal.loop-number-preserved
loop-number-preserved c =
    let g = c.args.self.now.site.inst.now in
    let f = leaf_of c.args.self.now.site in
    let label = c.index-labels-number.result in
    let n = c.loop-number.number in
    let less : n < length c.args.self.now.site.section.now.labels = subst (λ (ls : List SectionLabel). c.loop-number.number < length ls) c.as_slice-labels.ensures c.loop-number-test.true in
    let is : label ≡ slice_index_or c.args.self.now.site.section.now.labels n label = subst (λ (ls : List SectionLabel). c.index-labels-number.result ≡ slice_index_or ls c.loop-number.number c.index-labels-number.result) c.as_slice-labels.ensures c.index-labels-number.is in
    steps_more g f n (leaf_label label) (label_at c.args.self.now.site.section.now.labels n label less is) (subst (TellsFirst c.args.self.now.site.inst.now (leaf_of c.args.self.now.site) (leaf_label c.index-labels-number.result)) c.in_default.is c.in_ok-node.ensures) c.loop-number.invariant

pub returns : goal.returns
returns c =
    let labels = c.args.self.now.site.section.now.labels in
    let count = length-map labels leaf_label in
    let same = ap length c.as_slice-labels.ensures in
    no_bad_step c.args.self.now.site.inst.now (leaf_of c.args.self.now.site) c.loop-number.number (omega (arith, c.loop-number-test.false, count, same)) c.loop-number.invariant

pub uncovered_node-requires-clause-label : goal.uncovered_node-requires-clause-label
uncovered_node-requires-clause-label c =
    let n = c.loop-number.number in
    let less : n < length c.args.self.now.site.section.now.labels = subst (λ (ls : List SectionLabel). c.loop-number.number < length ls) c.as_slice-labels.ensures c.loop-number-test.true in
    let is : c.index-labels-number.result ≡ slice_index_or c.args.self.now.site.section.now.labels n c.index-labels-number.result = subst (λ (ls : List SectionLabel). c.index-labels-number.result ≡ slice_index_or ls c.loop-number.number c.index-labels-number.result) c.as_slice-labels.ensures c.index-labels-number.is in
    subst (λ (l : SectionLabel). SectionLabelFits c.args.self.now.site.inst.now l) (sym is) (c.requires.site.fits.labels n c.index-labels-number.result less)
