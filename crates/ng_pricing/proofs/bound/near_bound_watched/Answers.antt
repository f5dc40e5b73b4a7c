use Rattle.std.proofs.Common.{ap, length}
use Rattle.ng_pricing.proofs.EndProofs.{near_bounds, sets_fit}
use Rattle.ng_pricing.proofs.bound.near_bound_watched.Goals as goal

pub near_bound_from-requires-clause-sets : goal.near_bound_from-requires-clause-sets
near_bound_from-requires-clause-sets g c = sets_fit c.args.inst.now c.args.near c.in_ok-sets.sets.items c.in_ok-sets.ensures

pub returns : goal.returns
returns g c =
    near_bounds c.args.inst.now c.args.near c.in_ok-sets.sets.items c.in_ok-start.start.items (length c.customers.result.now) c.near_bound_from.result
    (ap length c.customers.ensures.value) c.in_ok-start.ensures c.in_ok-sets.ensures c.near_bound_from.ensures
