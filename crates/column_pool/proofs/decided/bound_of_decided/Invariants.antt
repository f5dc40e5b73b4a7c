use Rattle.column_pool.specs.Chains.{AreChains}
use Rattle.route_pool.specs.Pool.{IsGrown, IsPool}
use Rattle.column_pool.proofs.decided.bound_of_decided.Given as goal

abbrev pub invariant-loop-number : goal.invariant-loop-number
invariant-loop-number l = record {
  pool : IsPool l.inst l.pool;
  grown : IsGrown l.inst l.fn.pool l.pool;
  chains : AreChains l.inst l.pairs l.number l.chains.shares.items l.chains.prices.items;
}
