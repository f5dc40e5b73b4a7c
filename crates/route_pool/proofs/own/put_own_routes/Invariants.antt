use Rattle.route_pool.specs.Pool.{IsGrown, IsPool}
use Rattle.route_pool.proofs.own.put_own_routes.Given as goal

abbrev pub invariant-loop-node : goal.invariant-loop-node
invariant-loop-node l = record {
  pool : IsPool l.inst l.pool;
  grown : IsGrown l.inst l.fn.pool l.pool;
}
