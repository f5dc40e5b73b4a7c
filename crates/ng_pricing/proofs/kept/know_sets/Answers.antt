use Rattle.std.proofs.Common.{refl}
use Rattle.certificate_parts.proofs.EachItem.{all_hold, item_holds}
use Rattle.customer_sets.specs.CustSet.{IsCustomerSet}
use Rattle.ng_pricing.proofs.kept.know_sets.Goals as goal

pub loop-set-preserved : goal.loop-set-preserved
loop-set-preserved c =
    item_holds IsCustomerSet c.args.sets.now c.loop-set.set-index c.set-item.result c.loop-set-test.true c.loop-set.invariant c.set-item.is c.len-members.ensures.set

pub returns : goal.returns
returns c = (all_hold IsCustomerSet c.args.sets.now c.loop-set.set-index c.loop-set.auto.set-index-end c.loop-set-test.false c.loop-set.invariant).0 refl
