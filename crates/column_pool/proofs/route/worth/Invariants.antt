use Rattle.std.proofs.Common.{◌≡◌, ◌+◌, ◌*◌, ◌^◌, ◌≤◌, drop, map}
use Rattle.fleet_model.specs.Places.{customer_number}
use Rattle.price_loop.specs.Problems.{worth}
use Rattle.column_pool.proofs.route.worth.Given as goal

abbrev pub invariant-loop-node : goal.invariant-loop-node
invariant-loop-node l = record {
  sum : l.sum + worth l.of (map (customer_number l.inst) (drop l.node-index l.order)) ≡ worth l.of (map (customer_number l.inst) l.order);
  small : l.sum ≤ l.node-index * 2 ^ 64;
}
