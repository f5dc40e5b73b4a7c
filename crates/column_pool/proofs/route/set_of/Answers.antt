use Rattle.std.proofs.Common.{[], map}
use Rattle.fleet_model.specs.Places.{customer_number}
use Rattle.price_loop.specs.Columns.{set_of}
use Rattle.column_pool.proofs.Routes.{set_step}
use Rattle.column_pool.proofs.route.set_of.Goals as goal

pub loop-node-preserved : goal.loop-node-preserved
loop-node-preserved c =
    set_step c.args.inst.now c.args.order.now c.loop-node.node-index c.loop-node.set c.with-set.result c.number_of.result (set_of [] (map (customer_number c.args.inst.now) c.args.order.now)) c.loop-node-test.true c.number_of.ensures.value c.with-set.ensures.value c.loop-node.invariant
