use Rattle.std.proofs.Common.{ap, arith, length}
use Rattle.customer_sets.specs.SetBelow.{IsSetBelow}
use Rattle.near_tree.proofs.SiteFits.{customers_few}
use Rattle.near_tree.proofs.ZeroTrees.{all_more, singles_more}
use Rattle.near_tree.proofs.zero.own_sets.Goals as goal

pub own_set-requires : goal.own_set-requires
own_set-requires c =
    let same = ap length c.customers-number-end.ensures.value in
    let few = customers_few c.args.inst.now c.nodes-nodes.result c.nodes-nodes.ensures.value c.nodes-nodes.ensures.few in
    omega (arith, same, few, c.loop-number-test.true)

pub loop-number-preserved : goal.loop-number-preserved
loop-number-preserved c =
    let before = c.loop-number.sets.items in
    let after = c.push.new.self.items in
    let made = c.in_ok-push.ensures.items in
    record {
      sets = singles_more before after c.own_set.result c.loop-number.number made c.loop-number.invariant.sets c.own_set.ensures.value;
      kept = all_more (IsSetBelow 448) before after c.own_set.result made c.loop-number.invariant.kept c.own_set.ensures.kept;
    }
