use Rattle.std.proofs.Common.{◌≤◌, ◌↔◌, [], ◌∷◌, ◌++◌, map, drop, length}
use Rattle.customer_sets.specs.Pairs.{allows_of}
use Rattle.fleet_model.specs.Pairs.{KeepsPairs}
use Rattle.fleet_model.specs.Places.{place_of}
use Rattle.instance_reader.specs.Instance.{customer_nodes}
use Rattle.route_pool.proofs.keeping.keeps_pairs.Given as goal

abbrev pub invariant-loop-node : goal.invariant-loop-node
invariant-loop-node l = record {
  within : l.before ≤ length (customer_nodes l.inst);
  keeps : KeepsPairs (allows_of l.pairs) (0 ∷ map (place_of l.inst) l.order ++ 0 ∷ []) ↔ KeepsPairs (allows_of l.pairs) (l.before ∷ map (place_of l.inst) (drop l.node-index l.order) ++ 0 ∷ []);
}
