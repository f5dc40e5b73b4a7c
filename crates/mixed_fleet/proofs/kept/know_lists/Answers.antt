use Rattle.std.proofs.Common.{refl, subst}
use Rattle.std.specs.List.{All}
use Rattle.certificate_parts.proofs.EachItem.{all_hold, item_holds}
use Rattle.certificate_parts.specs.Ranges.{HasSet}
use Rattle.mixed_fleet.proofs.kept.know_lists.Goals as goal

pub loop-labels-preserved : goal.loop-labels-preserved
loop-labels-preserved c =
    item_holds (All HasSet) c.args.lists.now c.loop-labels.labels-index c.labels-item.result c.loop-labels-test.true c.loop-labels.invariant c.labels-item.is (subst (All HasSet) c.as_slice.ensures c.know_sets.ensures)

pub returns : goal.returns
returns c = (all_hold (All HasSet) c.args.lists.now c.loop-labels.labels-index c.loop-labels.auto.labels-index-end c.loop-labels-test.false c.loop-labels.invariant).0 refl
