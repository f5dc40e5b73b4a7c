use Rattle.route_pool.proofs.Known.{column_customers, column_known}
use Rattle.mixed_fleet.proofs.searched.as_searched.Goals as goal

pub numbers_at-requires-clause-known : goal.numbers_at-requires-clause-known
numbers_at-requires-clause-known c = column_known c.args.inst.now c.args.order.now c.args.plan.stops c.requires

pub numbers_at-requires-clause-customers : goal.numbers_at-requires-clause-customers
numbers_at-requires-clause-customers c = column_customers c.args.inst.now c.args.order.now c.args.plan.stops c.requires
