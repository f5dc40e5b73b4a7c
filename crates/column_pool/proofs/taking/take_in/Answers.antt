use Rattle.route_pool.proofs.GrownPools.{grown_result}
use Rattle.column_pool.proofs.taking.take_in.Goals as goal

pub returns-clause-grown : goal.returns-clause-grown
returns-clause-grown c =
    grown_result c.put.result c.args.inst.now c.as_slice.result.now c.in_ok-plan.plan.stops c.args.pool.now c.put.new.self c.put.ensures.put c.put.ensures.unchanged
