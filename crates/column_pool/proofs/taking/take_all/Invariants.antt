use Rattle.route_pool.specs.Pool.{IsGrown, IsPool}
use Rattle.column_pool.proofs.taking.take_all.Given as goal

abbrev pub invariant-loop-route : goal.invariant-loop-route
invariant-loop-route l = record {
  pool : IsPool l.inst l.pool;
  grown : IsGrown l.inst l.fn.pool l.pool;
}
