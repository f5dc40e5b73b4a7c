use Rattle.route_pool.proofs.GrownPools.{grown_further}
use Rattle.column_pool.proofs.taking.take_all.Goals as goal

pub loop-route-preserved : goal.loop-route-preserved
loop-route-preserved c = record {
  pool = c.take_in.ensures.pool;
  grown = grown_further c.args.inst.now c.args.pool.now c.loop-route.pool c.take_in.new.pool c.loop-route.invariant.grown c.take_in.ensures.grown;
}

pub returns-in_err-take_in-clause-grown : goal.returns-in_err-take_in-clause-grown
returns-in_err-take_in-clause-grown c =
    grown_further c.args.inst.now c.args.pool.now c.loop-route.pool c.take_in.new.pool c.loop-route.invariant.grown c.take_in.ensures.grown
