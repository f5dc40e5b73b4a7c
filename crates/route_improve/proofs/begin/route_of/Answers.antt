use Rattle.plan_check.proofs.Walks.{plan_known}
use Rattle.route_improve.proofs.begin.route_of.Goals as goal

pub customers_of-requires : goal.customers_of-requires
customers_of-requires c = plan_known c.args.inst.now c.args.stops.now c.requires.feasible
