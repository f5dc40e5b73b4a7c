use Rattle.std.proofs.Common.{take}
use Rattle.route_pool.specs.Pool.{IsPool}
use Rattle.ev_fleet.specs.OwnRoutes.{AreFastestOwn}
use Rattle.ev_fleet.proofs.own.own_routes.Given as goal

abbrev pub invariant-loop-node : goal.invariant-loop-node
invariant-loop-node l = record {
  own : AreFastestOwn l.inst (take l.node-index l.customers) l.routes.items;
  pool : IsPool l.inst l.pool;
}
