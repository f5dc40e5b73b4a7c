use Rattle.route_pool.proofs.Known.{column_customers, column_known}
use Rattle.column_pool.proofs.estimate.add_if_kept.Goals as goal

pub keeps_pairs-requires-clause-known : goal.keeps_pairs-requires-clause-known
keeps_pairs-requires-clause-known c = column_known c.args.inst.now c.args.order.now c.args.plan.now.stops c.requires.column

pub set_of-set-requires-clause-known : goal.set_of-set-requires-clause-known
set_of-set-requires-clause-known c = column_known c.args.inst.now c.args.order.now c.args.plan.now.stops c.requires.column

pub set_of-set-requires-clause-customers : goal.set_of-set-requires-clause-customers
set_of-set-requires-clause-customers c = column_customers c.args.inst.now c.args.order.now c.args.plan.now.stops c.requires.column
