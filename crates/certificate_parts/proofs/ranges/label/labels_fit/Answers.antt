use Rattle.std.proofs.Common.{arith}
use Rattle.std.proofs.lemmas.Grind.{common_steps}
use Rattle.certificate_parts.specs.Ranges.{LabelFits}
use Rattle.certificate_parts.proofs.EachItem.{all_hold, item_holds}
use Rattle.certificate_parts.proofs.ranges.label.labels_fit.Goals as goal

pub loop-label-preserved : goal.loop-label-preserved
loop-label-preserved c =
    item_holds (LabelFits c.args.inst.now) c.args.labels.now c.loop-label.label-index c.label-item.result c.loop-label-test.true c.loop-label.invariant c.label-item.is (c.label_fits.ensures.0 c.if-not-label_fits.false)

pub returns : goal.returns
returns c = all_hold (LabelFits c.args.inst.now) c.args.labels.now c.loop-label.label-index c.loop-label.auto.label-index-end c.loop-label-test.false c.loop-label.invariant

pub returns-then-not-label_fits : goal.returns-then-not-label_fits
returns-then-not-label_fits = grind (arith, common_steps)
