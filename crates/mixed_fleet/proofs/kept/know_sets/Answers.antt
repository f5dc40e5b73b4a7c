use Rattle.std.proofs.Common.{refl}
use Rattle.certificate_parts.proofs.EachItem.{all_hold, item_holds}
use Rattle.certificate_parts.specs.Ranges.{HasSet}
use Rattle.mixed_fleet.proofs.kept.know_sets.Goals as goal

pub loop-label-preserved : goal.loop-label-preserved
loop-label-preserved c =
    item_holds HasSet c.args.labels.now c.loop-label.label-index c.label-item.result c.loop-label-test.true c.loop-label.invariant c.label-item.is c.len-members.ensures.set

pub returns : goal.returns
returns c = (all_hold HasSet c.args.labels.now c.loop-label.label-index c.loop-label.auto.label-index-end c.loop-label-test.false c.loop-label.invariant).0 refl
