use Rattle.std.proofs.Common.{◌≡◌, ◌++◌, length, map}
use Rattle.std.specs.Vec.Iter.{into_iter_items, into_iter_len}
use Rattle.route_pool.specs.Pool.{IsPool}
use Rattle.column_pool.specs.Nodes.{timed}
use Rattle.column_pool.proofs.route.timed_all.Given as goal

abbrev pub invariant-loop-route : goal.invariant-loop-route
invariant-loop-route l = record {
  made : l.found.items ++ map (timed l.inst) (into_iter_items l.route-iterator) ≡ map (timed l.inst) l.fn.routes.items;
  left : IsPool l.inst (into_iter_items l.route-iterator);
  count : into_iter_len l.route-iterator ≡ length (into_iter_items l.route-iterator);
}
