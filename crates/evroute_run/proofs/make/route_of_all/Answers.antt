use Rattle.evroute_run.proofs.MadeInstances.{one_more}
use Rattle.evroute_run.proofs.make.route_of_all.Goals as goal

pub loop-customer-preserved : goal.loop-customer-preserved
loop-customer-preserved c =
    one_more c.loop-customer.customer c.loop-customer.nodes.items c.push-in-loop-customer.new.self.items c.in_ok-push-2.ensures.items c.loop-customer.invariant
