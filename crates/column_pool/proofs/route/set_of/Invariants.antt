use Rattle.std.proofs.Common.{◌≡◌, [], map, drop}
use Rattle.fleet_model.specs.Places.{customer_number}
use Rattle.price_loop.specs.Columns.{set_of}
use Rattle.column_pool.proofs.route.set_of.Given as goal

abbrev pub invariant-loop-node : goal.invariant-loop-node
invariant-loop-node l = set_of l.set (map (customer_number l.inst) (drop l.node-index l.order)) ≡ set_of [] (map (customer_number l.inst) l.order)
